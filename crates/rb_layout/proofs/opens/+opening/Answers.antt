use Rattle.std.proofs.Common.{◌∷◌, ◌++◌, [], ℕ, List, map, length, refl, ap, ◌∙◌}
use Rattle.std.proofs.lemmas.Option.{slice_get_read}
use Rattle.rb_layout.specs.Positions.{opens_below, opens_of}
use Rattle.rb_layout.specs.Opens.{opens_at}
use Rattle.rb_layout.specs.inner.Opening.{under}
use Rattle.rb_layout.proofs.OpenLemmas.{opens-more}
use Rattle.rb_layout.proofs.opens.+opening.Goals as goal

pub add_below-loop-i-preserved : goal.add_below-loop-i-preserved
add_below-loop-i-preserved t c =
    opens-more c.args.types.now c.args.path.now c.push.new.self c.args.pats.now c.args.fields.now c.loop-i.i c.in_ok-number_of-in-Some.field-0 c.index-pats-i.result c.in-Some.ty.now
    (opens_at c.loop-i.found) (opens_at c.add_opens.new.found)
    (opens_at c.args.found.now ++ map (under c.args.path.now) (opens_below (map (opens_of c.args.types.now) c.args.pats.now) c.args.fields.now 0))
    (slice_get_read c.args.pats.now (length c.args.pats.now) c.loop-i.i c.index-pats-i.result refl c.loop-i-test.true c.index-pats-i.is)
    (slice_get_read c.args.fields.now (length c.args.fields.now) c.loop-i.i c.in-Some.ty.now refl c.in-Some.ensures.lookup.3.0 c.in-Some.ensures.lookup.1)
    (c.in_ok-push-in-Some.ensures.ok ∙ ap (λ (q : List ℕ). q ++ c.in_ok-number_of-in-Some.field-0 ∷ []) c.in_ok-longer-in-Some.ensures)
    c.in_ok-number_of-in-Some.ensures c.in_ok-add_opens-in-Some.ensures c.loop-i.invariant
