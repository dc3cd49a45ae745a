use Rattle.std.proofs.Common.{◌≡◌, ℕ, suc, ◌+◌, ◌∷◌, [], Some, refl, sym, ap, ◌∙◌, length, length-append, arith}
use Rattle.rb_target.proofs.Growing.{Grows-refl, Grows-trans, Grows-append}
use Rattle.std.proofs.lemmas.List.{length-map}
use Rattle.rb_core.specs.Clauses.{pat_of}
use Rattle.rb_fragment.proofs.Arms.{arm_join}
use Rattle.rb_fragment.proofs.Matches.{are_next, are_none}
use Rattle.rb_compile.specs.Plans.{plan_of}
use Rattle.rb_compile.proofs.Arms.{arm_emits, arms_next, arms_none}
use Rattle.rb_compile.proofs.Choices.{can_close, match_expr, match_grows}
use Rattle.rb_compile.proofs.Forms.{let_expr, number_expr}
use Rattle.rb_compile.proofs.Variables.{variable_expr}
use Rattle.rb_compile.proofs.Operators.{binary_expr, to_expr}
use Rattle.rb_compile.proofs.Parts.{build_expr, call_expr, first_more, first_none, get_at}
use Rattle.rb_compile.proofs.Served.{serves}
use Rattle.rb_compile.proofs.expressions.+emit.Goals as goal

-- expressions

pub emit_expr-returns-in_ok-held-in-Num-clause-emits : goal.emit_expr-returns-in_ok-held-in-Num-clause-emits
emit_expr-returns-in_ok-held-in-Num-clause-emits t c = λ fun.
    rw c.in-Num.is (number_expr (plan_of c.args.agreed.now) fun _ _ c.args.wanted c.args.locals.now c.args.body.now _ c.in_ok-held-in-Num.held c.in_ok-held-in-Num.ensures.small c.in_ok-held-in-Num.ensures.is)

pub emit_expr-returns-in_ok-held-in-Var-clause-emits : goal.emit_expr-returns-in_ok-held-in-Var-clause-emits
emit_expr-returns-in_ok-held-in-Var-clause-emits t c = λ fun.
    rw c.in-Var.is (variable_expr (plan_of c.args.agreed.now) fun _ _ c.args.wanted c.args.locals.now c.args.body.now _ c.in_ok-held-in-Var.held (rw c.as_slice.ensures at c.in_ok-held-in-Var.ensures.is))

pub emit_expr-returns-in_ok-held-in-Call-clause-emits : goal.emit_expr-returns-in_ok-held-in-Call-clause-emits
emit_expr-returns-in_ok-held-in-Call-clause-emits t c = λ fun.
    rw c.in-Call.is (rw c.as_slice-in-Call.ensures at (c.in_ok-held-in-Call.ensures.emits fun c.in-Call.field-0 c.args.wanted))

pub emit_expr-returns-in_ok-held-in-Build-clause-emits : goal.emit_expr-returns-in_ok-held-in-Build-clause-emits
emit_expr-returns-in_ok-held-in-Build-clause-emits t c = λ fun.
    rw c.in-Build.is (rw c.as_slice-in-Build.ensures at (c.in_ok-held-in-Build.ensures.emits fun c.in-Build.field-0 c.args.wanted))

pub emit_expr-returns-in_ok-held-in-Binary-clause-emits : goal.emit_expr-returns-in_ok-held-in-Binary-clause-emits
emit_expr-returns-in_ok-held-in-Binary-clause-emits t c = λ fun.
    rw c.in-Binary.is (rw (c.get.ensures, c.get-in-Binary.ensures) at (c.in_ok-held-in-Binary.ensures.emits fun c.in-Binary.field-0))

pub emit_expr-returns-in_ok-held-in-To-clause-emits : goal.emit_expr-returns-in_ok-held-in-To-clause-emits
emit_expr-returns-in_ok-held-in-To-clause-emits t c = λ fun.
    let first = rw c.get-in-To.ensures at (c.in_ok-x-in-To.ensures.emits fun) in
    rw c.in-To.is (to_expr (plan_of c.args.agreed.now) fun _ _ _ c.args.wanted c.args.locals.now c.args.body.now _ _ c.in_ok-x-in-To.x c.in_ok-held-in-To.held first c.in_ok-held-in-To.ensures.is)

pub emit_expr-returns-in_ok-held-in-Let-clause-emits : goal.emit_expr-returns-in_ok-held-in-Let-clause-emits
emit_expr-returns-in_ok-held-in-Let-clause-emits t c = λ fun.
    rw c.in-Let.is (rw (c.get-a.ensures, c.get-b.ensures) at (c.in_ok-held-in-Let.ensures.emits fun c.in-Let.field-0))

pub emit_expr-returns-in_ok-held-in-Match-clause-emits : goal.emit_expr-returns-in_ok-held-in-Match-clause-emits
emit_expr-returns-in_ok-held-in-Match-clause-emits t c = λ fun.
    rw c.in-Match.is (rw (c.get-in-Match.ensures, c.as_slice-clauses.ensures) at (c.in_ok-held-in-Match.ensures.emits fun c.in-Match.field-0))

-- operators and bindings

pub emit_binary-returns-clause-emits : goal.emit_binary-returns-clause-emits
emit_binary-returns-clause-emits t c = λ fun at.
    let first = rw c.wanted_of_operand-first.ensures at (c.in_ok-x.ensures.emits fun) in
    let second = rw (c.in_ok-x.ensures.locals, c.unwrap_or-ty.ensures, c.wanted_of_operand-first.ensures) at (c.in_ok-y.ensures.emits fun) in
    binary_expr (plan_of c.args.agreed.now) fun at c.args.op c.args.a.now c.args.b.now c.args.wanted c.args.locals.now c.args.body.now _ _ _ c.in_ok-x.x c.in_ok-y.y c.in_ok-held.held first second
    (rw (c.unwrap_or-ty.ensures, c.wanted_of_operand-first.ensures) at c.in_ok-held.ensures.is)

pub emit_let-returns-clause-emits : goal.emit_let-returns-clause-emits
emit_let-returns-clause-emits t c = λ fun at.
    let second = rw (c.in_ok-push.ensures.ok, c.in_ok-x.ensures.locals) at (c.in_ok-y.ensures.emits fun) in
    let_expr (plan_of c.args.agreed.now) fun at c.args.binder.var c.args.binder.ty c.args.a.now c.args.b.now c.args.wanted c.args.locals.now c.args.body.now _ _ c.in_ok-x.x c.in_ok-y.y (c.in_ok-x.ensures.emits fun) second

-- parts

pub emit_call-returns-clause-emits : goal.emit_call-returns-clause-emits
emit_call-returns-clause-emits t c = λ fun at wanted.
    call_expr (plan_of c.args.agreed.now) fun at c.args.number c.args.args.now wanted c.args.locals.now c.in-Some.fun.now (sym c.in-Some.ensures) c.args.body.now _ _ c.in_ok-parts.parts c.in_ok-held.held
    (rw (c.as_slice-2.ensures, c.in_ok-tys.ensures, c.as_slice.ensures) at (c.in_ok-parts.ensures.emits fun)) c.in_ok-held.ensures.held (rw c.as_slice-3.ensures at c.in_ok-held.ensures.code)

pub emit_call-returns-clause-grows : goal.emit_call-returns-clause-grows
emit_call-returns-clause-grows t c = rw c.in_ok-held.ensures.code (Grows-trans _ _ _ c.in_ok-parts.ensures.grows (Grows-append _ _))

pub emit_construction-returns-clause-emits : goal.emit_construction-returns-clause-emits
emit_construction-returns-clause-emits t c = λ fun at wanted.
    build_expr c.args.agreed.now (plan_of c.args.agreed.now) fun at c.args.con c.args.args.now wanted c.args.locals.now c.in-Some.tys c.args.body.now _ _ c.in_ok-parts.parts c.in_ok-held.held (record { program = refl; layouts = refl })
    (sym c.in_ok-tys.ensures ∙ c.in-Some.is) (rw c.as_slice.ensures at (c.in_ok-parts.ensures.emits fun)) (rw (c.as_slice-2.ensures, c.as_slice-3.ensures, c.in_ok-shown.ensures) at c.in_ok-held.ensures.builds)

pub emit_all-loop-i-init : goal.emit_all-loop-i-init
emit_all-loop-i-init t c = record {
  grows = Grows-refl _;
  emits = λ fun. rw c.new-all.ensures (first_none (plan_of c.args.agreed.now) fun c.args.exprs.now c.args.tys.now c.args.locals.now c.args.body.now);
  count = ap length c.new-all.ensures;
  locals = refl;
}

pub emit_all-loop-i-preserved : goal.emit_all-loop-i-preserved
emit_all-loop-i-preserved t c = record {
  grows = Grows-trans _ _ _ c.loop-i.invariant.grows c.in_ok-held.ensures.grows;
  emits = λ fun. rw c.in_ok-push.ensures.ok
      (first_more (plan_of c.args.agreed.now) fun c.args.exprs.now c.args.tys.now c.args.locals.now c.loop-i.i c.index-exprs-i.result _ _ _ _ _ c.loop-i-test.true c.index-exprs-i.is c.loop-i.invariant.count
      (c.loop-i.invariant.emits fun) (rw (c.wanted_at-wanted.ensures, c.loop-i.invariant.locals) at (c.in_ok-held.ensures.emits fun)));
  count = ap length c.in_ok-push.ensures.ok ∙ length-append c.loop-i.all (c.in_ok-held.held ∷ []) ∙ ap (λ n. n + 1) c.loop-i.invariant.count;
  locals = c.in_ok-held.ensures.locals ∙ c.loop-i.invariant.locals;
}

pub emit_all-returns-clause-emits : goal.emit_all-returns-clause-emits
emit_all-returns-clause-emits t c = λ fun.
    let all : c.loop-i.i ≡ length c.args.exprs.now = omega (arith, c.loop-i-test.false, c.loop-i.auto.i-end) in
    rw (← all) (c.loop-i.invariant.emits fun)

-- arms

pub emit_arm-returns-clause-emits : goal.emit_arm-returns-clause-emits
emit_arm-returns-clause-emits t c = λ fun.
    let binds = rw c.as_slice-words.ensures at c.in_ok-bound.ensures.binds in
    let body = rw c.in_ok-extend.ensures at (c.in_ok-held.ensures.emits fun) in
    arm_emits c.args.agreed.now (plan_of c.args.agreed.now) fun c.args.clause.now c.args.wanted c.args.locals.now c.args.subject.now c.args.body.now _ _ _ c.in_ok-bound.bound c.in_ok-held.held c.in_ok-joined.joined c.args.into
    (record { program = refl; layouts = refl }) c.in_ok-pat.pat (λ types layouts s. serves types layouts c.args.clause.now.body c.args.clause.now.pat c.in_ok-pat.pat c.in_ok-pat.ensures s) binds body c.in_ok-joined.ensures

pub emit_arm-returns-clause-join : goal.emit_arm-returns-clause-join
emit_arm-returns-clause-join t c =
    let j = arm_join c.args.into c.in_ok-held.held _ _ c.in_ok-joined.joined c.in_ok-joined.ensures in
    (omega (arith, j.0.0, c.in_ok-bound.ensures.grows.longer, c.in_ok-held.ensures.grows.longer), j.0.1, j.0.2)

pub emit_arm-returns-clause-grows : goal.emit_arm-returns-clause-grows
emit_arm-returns-clause-grows t c =
    let j = arm_join c.args.into c.in_ok-held.held _ _ c.in_ok-joined.joined c.in_ok-joined.ensures in
    Grows-trans _ _ _ c.in_ok-bound.ensures.grows (Grows-trans _ _ _ c.in_ok-held.ensures.grows j.1)

pub emit_arms-loop-clause-init : goal.emit_arms-loop-clause-init
emit_arms-loop-clause-init t c = record {
  grows = Grows-refl _;
  emits = λ fun. rw (c.new-joins.ensures, c.new-starts.ensures) (arms_none (plan_of c.args.agreed.now) fun c.args.clauses.now c.args.wanted c.args.locals.now c.args.subject.now c.args.body.now);
  are = rw (c.new-joins.ensures, c.new-starts.ensures) (are_none c.args.body.now);
  reaches = tt;
  locals = refl;
}

pub emit_arms-loop-clause-preserved : goal.emit_arms-loop-clause-preserved
emit_arms-loop-clause-preserved t c =
    let item = get_at c.args.clauses.now c.loop-clause.clause-index c.clause-item.result c.loop-clause-test.true ∙ ap Some (sym c.clause-item.is) in
    let inv = c.loop-clause.invariant in
    let arm = λ (fun : ℕ). rw (c.next_wanted-next.ensures, inv.locals) at (c.in_ok-joined.ensures.emits fun) in
    let i = c.loop-clause.clause-index in
    let up : suc i ≡ i + 1 = omega arith in
    record {
      grows = Grows-trans _ _ _ inv.grows c.in_ok-joined.ensures.grows;
      emits = λ fun. rw (c.in_ok-push-2.ensures.ok, c.in_ok-push.ensures.ok, c.len.ensures.value)
          (arms_next (plan_of c.args.agreed.now) fun i c.args.clauses.now c.args.wanted c.args.locals.now c.args.subject.now c.args.body.now c.loop-clause.body c.emit_arm.new.body c.loop-clause.into c.clause-item.result c.in_ok-joined.joined
          c.loop-clause.joins c.loop-clause.starts (inv.emits fun) inv.are inv.reaches (arm fun) item c.in_ok-joined.ensures.join);
      are = rw (c.in_ok-push-2.ensures.ok, c.in_ok-push.ensures.ok, c.len.ensures.value)
          (are_next i c.args.body.now c.loop-clause.body c.emit_arm.new.body c.loop-clause.joins c.loop-clause.starts c.in_ok-joined.joined.join inv.are c.in_ok-joined.ensures.grows c.in_ok-joined.ensures.join);
      reaches = rw (← up) tt;
      locals = c.in_ok-joined.ensures.locals ∙ inv.locals;
    }

pub emit_arms-returns-clause-emits : goal.emit_arms-returns-clause-emits
emit_arms-returns-clause-emits t c = λ fun.
    let all : c.loop-clause.clause-index ≡ length c.args.clauses.now = omega (arith, c.loop-clause-test.false, c.loop-clause.auto.clause-index-end) in
    rw (← all) (c.loop-clause.invariant.emits fun)

pub emit_arms-returns-clause-are : goal.emit_arms-returns-clause-are
emit_arms-returns-clause-are t c =
    let all : c.loop-clause.clause-index ≡ length c.args.clauses.now = omega (arith, c.loop-clause-test.false, c.loop-clause.auto.clause-index-end) in
    rw (← all) c.loop-clause.invariant.are

pub emit_arms-returns-clause-reaches : goal.emit_arms-returns-clause-reaches
emit_arms-returns-clause-reaches t c =
    let all : c.loop-clause.clause-index ≡ length c.args.clauses.now = omega (arith, c.loop-clause-test.false, c.loop-clause.auto.clause-index-end) in
    rw (← all) c.loop-clause.invariant.reaches

pub emit_arms-returns-clause-grows : goal.emit_arms-returns-clause-grows
emit_arms-returns-clause-grows t c = c.loop-clause.invariant.grows

pub emit_arms-returns-clause-locals : goal.emit_arms-returns-clause-locals
emit_arms-returns-clause-locals t c = c.loop-clause.invariant.locals

-- the match

pub emit_choice-close_match-requires : goal.emit_choice-close_match-requires
emit_choice-close_match-requires t c =
    let pats = c.as_slice.ensures ∙ c.in_ok-pats.ensures in
    let count : length c.as_slice.result.now ≡ length c.args.clauses.now = ap length pats ∙ length-map c.args.clauses.now pat_of in
    rw (c.as_slice-2.ensures, c.as_slice-3.ensures, c.as_slice-4.ensures)
    (can_close (length c.args.clauses.now) c.emit_expr.new.body c.emit_match.new.body c.emit_arms.new.body c.in_ok-holes.holes c.in_ok-arms.arms.joins c.in_ok-arms.arms.starts (rw count at c.in_ok-holes.ensures.holes) c.in_ok-arms.ensures.are)

pub emit_choice-returns-clause-emits : goal.emit_choice-returns-clause-emits
emit_choice-returns-clause-emits t c = λ fun at.
    let pats = c.as_slice.ensures ∙ c.in_ok-pats.ensures in
    let count : length c.as_slice.result.now ≡ length c.args.clauses.now = ap length pats ∙ length-map c.args.clauses.now pat_of in
    let arms = rw (c.in_ok-subject.ensures.locals, c.in-Some.is) at (c.in_ok-arms.ensures.emits fun) in
    rw (c.in_ok-close_match.ensures.ok, c.as_slice-2.ensures, c.as_slice-3.ensures, c.as_slice-4.ensures)
    (match_expr c.args.agreed.now (plan_of c.args.agreed.now) (record { program = refl; layouts = refl }) fun at c.args.scrutinee.now c.args.clauses.now c.args.wanted c.args.locals.now c.args.body.now c.emit_expr.new.body c.emit_match.new.body
    c.emit_arms.new.body c.in_ok-subject.subject c.in-Some.held c.in_ok-holes.holes c.in_ok-arms.arms.joins c.in_ok-arms.arms.starts (c.in_ok-subject.ensures.emits fun)
    (rw (c.as_slice.ensures, c.in_ok-pats.ensures, c.as_slice-words.ensures) at c.in_ok-holes.ensures.chooses) (rw count at c.in_ok-holes.ensures.holes) c.in_ok-holes.ensures.ways arms c.in_ok-arms.ensures.are)

pub emit_choice-returns-clause-grows : goal.emit_choice-returns-clause-grows
emit_choice-returns-clause-grows t c =
    let pats = c.as_slice.ensures ∙ c.in_ok-pats.ensures in
    let count : length c.as_slice.result.now ≡ length c.args.clauses.now = ap length pats ∙ length-map c.args.clauses.now pat_of in
    rw (c.in_ok-close_match.ensures.ok, c.as_slice-2.ensures, c.as_slice-3.ensures, c.as_slice-4.ensures)
    (match_grows c.args.body.now c.emit_expr.new.body c.emit_match.new.body c.emit_arms.new.body (length c.args.clauses.now) c.in_ok-holes.holes c.in_ok-arms.arms.joins c.in_ok-arms.arms.starts
    c.in_ok-subject.ensures.grows c.in_ok-holes.ensures.grows (rw count at c.in_ok-holes.ensures.holes) c.in_ok-arms.ensures.are)
