use Rattle.std.proofs.Common.{◌≡◌, [], ◌∷◌, ◌++◌, Some, None, ap, sym, ◌∙◌}
use Rattle.std.specs.Prelude.{if◌then◌else◌}
use Rattle.rb_decide.proofs.Chaining.{test-chained}
use Rattle.rb_decide.proofs.one_pattern.add_test.Goals as goal
use Rattle.rb_decide.proofs.one_pattern.add_test.Goals.{then-full, else-full}

pub returns : goal.returns
returns c =
    let other : c.if-full.other ≡ (if c.in_ok-full.full then None else Some 0) = elim c.if-full.branch [
      | then-full w ↦ w.other-is ∙ sym (ap (λ b. if b then None else Some 0) w.if-full.true)
      | else-full w ↦ w.other-is ∙ sym (ap (λ b. if b then None else Some 0) w.if-full.false)
    ] in
    test-chained c.args.types.now (record { position = c.args.position.now; ty = c.args.ty }) c.args.head c.args.nodes.now c.push-2.new.self c.args.under c.requires.fine c.requires.within
    c.from_vec-position.result (c.from_vec-position.ensures ∙ c.in_ok-from_slice.ensures.items) c.in_ok-full.full c.in_ok-full.ensures c.if-full.other other c.push.new.self
    (c.in_ok-push.ensures.ok ∙ ap (λ l. l ++ record { head = c.args.head; under = c.args.under } ∷ []) c.new-arms.ensures)
    c.in_ok-push-2.ensures.ok c.in_ok-number.number (c.in_ok-number.ensures ∙ c.len.ensures)
