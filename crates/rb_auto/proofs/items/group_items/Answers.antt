use Rattle.std.proofs.Common.{List, length, ap, sym, ◌∙◌, ◌-◌}
use Rattle.std.specs.Prelude.{◌==◌}
use Rattle.std.proofs.lemmas.Bool.{eqb-true}
use Rattle.rb_auto.specs.declared.field_words.FieldWord.{FieldWord}
use Rattle.rb_auto.proofs.Groups.{empty-list, groups-end, groups-out, groups-next}
use Rattle.rb_auto.proofs.items.group_items.Goals as goal

pub loop-turn-preserved : goal.loop-turn-preserved
loop-turn-preserved c =
    groups-next (length c.args.words.now) c.loop-turn._turn c.min.result c.loop-turn.items c.push.new.self c.loop-turn.rest.now c.split_at.result.0.now c.split_at.result.1.now
    c.in_ok-group_item.field-0 _ c.loop-turn-test.true (λ e. absurd (cc (c.is_empty.ensures, c.if-is_empty.false, ap (λ (ws : List FieldWord). length ws == 0) e)))
    c.min.ensures c.split_at.ensures.front c.split_at.ensures.back c.in_ok-group_item.ensures c.in_ok-push.ensures.ok c.loop-turn.invariant

pub returns-then-is_empty : goal.returns-then-is_empty
returns-then-is_empty c =
    groups-end (length c.args.words.now - c.loop-turn._turn) c.loop-turn.items c.loop-turn.rest.now _
    (empty-list c.loop-turn.rest.now (eqb-true (length c.loop-turn.rest.now) 0 (sym c.is_empty.ensures ∙ c.if-is_empty.true))) c.loop-turn.invariant

pub returns : goal.returns
returns c = groups-out (length c.args.words.now) c.loop-turn._turn c.loop-turn.items c.loop-turn.rest.now _ c.loop-turn-test.false c.loop-turn.invariant
