use Rattle.std.proofs.Common.{rules, sym, refl, ◌∙◌}
use Rattle.rb_trim.proofs.Fitting.{trimmed}
use Rattle.rb_trim.proofs.trim.trim_by.Goals as goal

pub returns : goal.returns
returns c =
    trimmed c.args.fun.now (record { name = c.in_ok-name.name; params = c.args.fun.now.params; results = c.args.fun.now.results; slots = c.args.hints.now.slots; body = c.in_ok-body.body }) c.args.hints.now
    (record { name = c.in_ok-name.ensures; params = refl; results = refl })
    (rw c.as_slice.ensures at c.in_ok-body.ensures)
    (c.fits.ensures (search rules))
    (c.are_apart.ensures (search rules)) (c.keep_params.ensures (search rules))
    (sym c.place_at-first.ensures ∙ search rules) (c.knows_nothing.ensures (search rules)) (c.is_reached.ensures.0 (search rules))
