use Rattle.std.proofs.Common.{sym, ap, ◌∙◌}
use Rattle.rb_target.proofs.Growing.{Grows-refl, Grows-trans}
use Rattle.rb_rel.specs.Relation as relation
use Rattle.rb_facts.proofs.SavedParts.{given-none, given-more}
use Rattle.rb_facts.proofs.spots.give_spots.Goals as goal

pub loop-part-init : goal.loop-part-init
loop-part-init c = rw c.new-spots.ensures (record { gives = given-none c.args.agreed.now c.args.body.now; grows = Grows-refl c.args.body.now.code })

pub loop-part-preserved : goal.loop-part-preserved
loop-part-preserved c =
    let inv = c.loop-part.invariant in
    rw c.in_ok-push.ensures.ok (record {
      gives = given-more c.args.agreed.now c.args.body.now c.loop-part.body c.zeroes.new.body c.loop-part.spots _ c.word_count-count.result inv.gives c.in_ok-slots.ensures.zeroes c.in_ok-slots.ensures.slots
          (λ plan of. c.word_count-count.ensures ∙ ap (λ ls. relation.word_count ls c.part-item.result.ty) (c.layouts.ensures.same ∙ sym of.layouts));
      grows = Grows-trans _ _ _ inv.grows c.in_ok-slots.ensures.zeroes.grows;
    })
