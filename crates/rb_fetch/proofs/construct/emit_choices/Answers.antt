use Rattle.std.proofs.Common.{length, refl, sym, ap, ◌∙◌, arith}
use Rattle.std.specs.Prelude.{slice_get}
use Rattle.std.proofs.lemmas.Option.{slice_get_read}
use Rattle.rb_fetch.proofs.Ways.{are_holes}
use Rattle.rb_fetch.proofs.construct.emit_choices.Goals as goal

pub emit_ways-requires : goal.emit_ways-requires
emit_ways-requires c =
    let from = c.requires.open.0 in
    record { holes = (from, rw c.in_ok-choices.ensures (are_holes 0 from from (length c.args.ways) c.args.body.now.code c.args.ways (omega arith) c.requires.open.1 (omega arith))) }

pub returns : goal.returns
returns c =
    let l = c.in-Some.ensures.lookup in
    let at = ap (λ ls. slice_get ls c.args.con.ty) (sym c.layouts.ensures.same) ∙ slice_get_read c.layouts.result.now (length c.layouts.result.now) c.args.con.ty c.in-Some.layout.now refl l.3.0 l.1 in
    record {
      sound = record { typed = rw c.covered.ensures.same at c.program-typed.ensures.typed; flat = c.layouts.ensures.flat; agrees = c.layouts.ensures.agree };
      layout = c.in-Some.layout.now;
      is_layout = at;
      meets = rw (c.as_slice.ensures, c.in_ok-choices.ensures) at c.in_ok-held.ensures.meets;
    }
