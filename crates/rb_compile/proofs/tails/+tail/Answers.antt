use Rattle.std.proofs.Common.{◌≡◌, ℕ, ◌<◌, Some, refl, sym, ap, ◌∙◌, length, arith}
use Rattle.std.proofs.lemmas.List.{length-map}
use Rattle.rb_core.specs.Clauses.{pat_of}
use Rattle.rb_compile.specs.Plans.{plan_of}
use Rattle.rb_compile.proofs.Parts.{get_at}
use Rattle.rb_compile.proofs.Served.{serves}
use Rattle.rb_compile.proofs.TailForms.{let_return}
use Rattle.rb_compile.proofs.TailArms.{tail_are_next, tail_are_none, tail_arm, tail_arms_next, tail_arms_none}
use Rattle.rb_compile.proofs.TailChoices.{has_one, match_return, tail_grows, tail_patchable}
use Rattle.rb_compile.proofs.tails.+tail.Goals as goal

-- expressions

pub emit_tail-returns-in_ok-emit_tail_let-in-Let-clause-emits : goal.emit_tail-returns-in_ok-emit_tail_let-in-Let-clause-emits
emit_tail-returns-in_ok-emit_tail_let-in-Let-clause-emits t c = λ fun.
    rw c.in-Let.is (rw (c.get-a.ensures, c.get-b.ensures) at (c.in_ok-emit_tail_let-in-Let.ensures.emits fun c.in-Let.field-0))

pub emit_tail-returns-in_ok-emit_tail_match-in-Match-clause-emits : goal.emit_tail-returns-in_ok-emit_tail_match-in-Match-clause-emits
emit_tail-returns-in_ok-emit_tail_match-in-Match-clause-emits t c = λ fun.
    rw c.in-Match.is (rw (c.get.ensures, c.as_slice-clauses.ensures) at (c.in_ok-emit_tail_match-in-Match.ensures.emits fun c.in-Match.field-0))

-- bindings

pub emit_tail_let-returns-clause-emits : goal.emit_tail_let-returns-clause-emits
emit_tail_let-returns-clause-emits t c = λ fun at.
    let second = rw (c.in_ok-push.ensures.ok, c.in_ok-x.ensures.locals) at (c.in_ok-emit_tail.ensures.emits fun) in
    let_return (plan_of c.args.agreed.now) fun at c.args.binder.var c.args.binder.ty c.args.a.now c.args.b.now c.args.ty c.args.locals.now c.args.body.now _ _ c.in_ok-x.x (c.in_ok-x.ensures.emits fun) second

-- arms

pub emit_tail_arm-returns-clause-emits : goal.emit_tail_arm-returns-clause-emits
emit_tail_arm-returns-clause-emits t c = λ fun.
    let binds = rw c.as_slice-words.ensures at c.in_ok-bound.ensures.binds in
    let body = rw c.in_ok-extend.ensures at (c.in_ok-emit_tail.ensures.emits fun) in
    tail_arm c.args.agreed.now (plan_of c.args.agreed.now) fun c.args.clause.now c.args.ty c.args.locals.now c.args.subject.now c.args.body.now _ _ c.in_ok-bound.bound
    (record { program = refl; layouts = refl }) c.in_ok-pat.pat (λ types layouts s. serves types layouts c.args.clause.now.body c.args.clause.now.pat c.in_ok-pat.pat c.in_ok-pat.ensures s) binds body

pub emit_tail_arms-loop-clause-init : goal.emit_tail_arms-loop-clause-init
emit_tail_arms-loop-clause-init t c = record {
  emits = λ fun. rw c.new-starts.ensures (tail_arms_none (plan_of c.args.agreed.now) fun c.args.clauses.now c.args.ty c.args.locals.now c.args.subject.now c.args.body.now);
  are = rw c.new-starts.ensures (tail_are_none c.args.body.now);
  locals = refl;
}

pub emit_tail_arms-loop-clause-preserved : goal.emit_tail_arms-loop-clause-preserved
emit_tail_arms-loop-clause-preserved t c =
    let item = get_at c.args.clauses.now c.loop-clause.clause-index c.clause-item.result c.loop-clause-test.true ∙ ap Some (sym c.clause-item.is) in
    let inv = c.loop-clause.invariant in
    let arm = λ (fun : ℕ). rw inv.locals at (c.in_ok-emit_tail_arm.ensures.emits fun) in
    let i = c.loop-clause.clause-index in
    record {
      emits = λ fun. rw (c.in_ok-push.ensures.ok, c.len.ensures.value)
          (tail_arms_next (plan_of c.args.agreed.now) fun i c.args.clauses.now c.args.ty c.args.locals.now c.args.subject.now c.args.body.now c.loop-clause.body c.emit_tail_arm.new.body c.clause-item.result
          c.loop-clause.starts (inv.emits fun) inv.are (arm fun) item);
      are = rw (c.in_ok-push.ensures.ok, c.len.ensures.value)
          (tail_are_next i c.args.body.now c.loop-clause.body c.emit_tail_arm.new.body c.loop-clause.starts inv.are c.in_ok-emit_tail_arm.ensures.grows);
      locals = c.in_ok-emit_tail_arm.ensures.locals ∙ inv.locals;
    }

pub emit_tail_arms-returns-clause-emits : goal.emit_tail_arms-returns-clause-emits
emit_tail_arms-returns-clause-emits t c = λ fun.
    let all : c.loop-clause.clause-index ≡ length c.args.clauses.now = omega (arith, c.loop-clause-test.false, c.loop-clause.auto.clause-index-end) in
    rw (← all) (c.loop-clause.invariant.emits fun)

pub emit_tail_arms-returns-clause-are : goal.emit_tail_arms-returns-clause-are
emit_tail_arms-returns-clause-are t c =
    let all : c.loop-clause.clause-index ≡ length c.args.clauses.now = omega (arith, c.loop-clause-test.false, c.loop-clause.auto.clause-index-end) in
    rw (← all) c.loop-clause.invariant.are

-- the match

pub emit_tail_match-patch_all-requires : goal.emit_tail_match-patch_all-requires
emit_tail_match-patch_all-requires t c =
    let pats = c.as_slice.ensures ∙ c.in_ok-pats.ensures in
    let count : length c.as_slice.result.now ≡ length c.args.clauses.now = ap length pats ∙ length-map c.args.clauses.now pat_of in
    rw (c.as_slice-2.ensures, c.as_slice-3.ensures)
    (tail_patchable (length c.args.clauses.now) c.emit_expr.new.body c.emit_match.new.body c.emit_tail_arms.new.body c.in_ok-holes.holes c.in_ok-starts.starts (rw count at c.in_ok-holes.ensures.holes) c.in_ok-starts.ensures.are)

pub emit_tail_match-returns-clause-emits : goal.emit_tail_match-returns-clause-emits
emit_tail_match-returns-clause-emits t c = λ fun at.
    let pats = c.as_slice.ensures ∙ c.in_ok-pats.ensures in
    let count : length c.as_slice.result.now ≡ length c.args.clauses.now = ap length pats ∙ length-map c.args.clauses.now pat_of in
    let arms = rw c.in_ok-subject.ensures.locals at (c.in_ok-starts.ensures.emits fun) in
    let some : 0 < length c.args.clauses.now = has_one (length c.args.clauses.now) (sym c.is_empty.ensures ∙ c.if-is_empty.false) in
    rw (c.patch_all.ensures, c.as_slice-2.ensures, c.as_slice-3.ensures)
    (match_return c.args.agreed.now (plan_of c.args.agreed.now) (record { program = refl; layouts = refl }) fun at c.args.scrutinee.now c.args.clauses.now c.args.ty c.args.locals.now c.args.body.now c.emit_expr.new.body c.emit_match.new.body
    c.emit_tail_arms.new.body c.in_ok-subject.subject c.in_ok-holes.holes c.in_ok-starts.starts some (c.in_ok-subject.ensures.emits fun)
    (rw (c.as_slice.ensures, c.in_ok-pats.ensures, c.as_slice-words.ensures) at c.in_ok-holes.ensures.chooses) (rw count at c.in_ok-holes.ensures.holes) c.in_ok-holes.ensures.ways arms c.in_ok-starts.ensures.are)

pub emit_tail_match-returns-clause-grows : goal.emit_tail_match-returns-clause-grows
emit_tail_match-returns-clause-grows t c =
    let pats = c.as_slice.ensures ∙ c.in_ok-pats.ensures in
    let count : length c.as_slice.result.now ≡ length c.args.clauses.now = ap length pats ∙ length-map c.args.clauses.now pat_of in
    rw (c.patch_all.ensures, c.as_slice-2.ensures, c.as_slice-3.ensures)
    (tail_grows c.args.body.now c.emit_expr.new.body c.emit_match.new.body c.emit_tail_arms.new.body (length c.args.clauses.now) c.in_ok-holes.holes c.in_ok-starts.starts
    c.in_ok-subject.ensures.grows c.in_ok-holes.ensures.grows (rw count at c.in_ok-holes.ensures.holes) c.in_ok-starts.ensures.are)
