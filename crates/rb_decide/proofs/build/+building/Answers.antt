use Rattle.std.proofs.Common.{ap, sym, ◌∙◌, refl, arith}
use Rattle.rb_decide.specs.ClauseMatrices.{first_test, is_complete}
use Rattle.rb_decide.specs.Trees.{count_of_heads}
use Rattle.rb_decide.proofs.Building.{split-rest, moved-column, moved-less, built-moved, arms-over, full-built, rest-over, rest-built, arm-less, arm-over, arm-sum, arm-done, get-same, all-done}
use Rattle.rb_decide.proofs.Weights.{default-less}
use Rattle.rb_decide.proofs.build.+building.Goals as goal

pub build-build_test-requires : goal.build-build_test-requires
build-build_test-requires t c =
    let rows = c.as_slice-in-Some-2.ensures ∙ c.in_ok-rows-in-Some.ensures in
    let less = moved-less c.args.rows.now c.first-item.result c.in-len1-up.len_at_least c.first-item.is c.in-Some.i
    (ap first_test (sym c.as_slice.ensures) ∙ sym c.first_tested.ensures ∙ c.in-Some.is) _ rows in
    let column = moved-column c.args.rows.now c.first-item.result c.in-len1-up.len_at_least c.first-item.is c.in-Some.i
    (ap first_test (sym c.as_slice.ensures) ∙ sym c.first_tested.ensures ∙ c.in-Some.is) _ rows in
    (omega (arith, less, c.decreases), (column, omega arith))

pub build-returns-in_ok-tree-in-Some : goal.build-returns-in_ok-tree-in-Some
build-returns-in_ok-tree-in-Some t c =
    let rows = c.as_slice-in-Some-2.ensures ∙ c.in_ok-rows-in-Some.ensures in
    let columns = c.as_slice-in-Some.ensures ∙ c.in_ok-columns-in-Some.ensures in
    built-moved c.args.rows.now c.first-item.result c.in-len1-up.len_at_least c.first-item.is c.in-Some.i
    (ap first_test (sym c.as_slice.ensures) ∙ sym c.first_tested.ensures ∙ c.in-Some.is)
    c.args.types.now c.args.columns.now _ _ _ _ _ columns rows c.in_ok-tree-in-Some.ensures

pub build_arms-build-requires : goal.build_arms-build-requires
build_arms-build-requires t c =
    let less = arm-less c.args.types.now c.args.column.now c.args.rest.now c.args.rows.now c.requires.heads c.args.heads.now c.loop-head.head-index _ c.loop-head-test.true
    (get-same c.args.heads.now c.loop-head.head-index _ _ c.loop-head-test.true) _ c.fields_of_head-fields.ensures _ (c.as_slice.ensures ∙ c.in_ok-columns.ensures) _ refl _ (c.as_slice-in-loop-head.ensures ∙ c.in_ok-special.ensures) in
    omega (arith, less, c.decreases)

pub build_arms-returns-in_default : goal.build_arms-returns-in_default
build_arms-returns-in_default t c =
    arm-over c.args.types.now c.args.column.now c.args.rest.now c.args.rows.now c.requires.heads c.args.heads.now c.loop-head.head-index _ c.loop-head-test.true
    (get-same c.args.heads.now c.loop-head.head-index _ _ c.loop-head-test.true) _ c.fields_of_head-fields.ensures _ (c.as_slice.ensures ∙ c.in_ok-columns.ensures) _ refl _ (c.as_slice-in-loop-head.ensures ∙ c.in_ok-special.ensures)
    c.args.left.now c.loop-head.left c.build.new.left c.loop-head.arms c.loop-head.invariant.left c.loop-head.invariant.arms c.in_ok-under.field-0 c.in_ok-under.ensures c.in_default.is

pub build_arms-loop-head-preserved : goal.build_arms-loop-head-preserved
build_arms-loop-head-preserved t c =
    record {
      arms = arm-done c.args.types.now c.args.column.now c.args.rest.now c.args.rows.now c.requires.heads c.args.heads.now c.loop-head.head-index _ c.loop-head-test.true
          (get-same c.args.heads.now c.loop-head.head-index _ _ c.loop-head-test.true) _ c.fields_of_head-fields.ensures _ (c.as_slice.ensures ∙ c.in_ok-columns.ensures) _ refl _ (c.as_slice-in-loop-head.ensures ∙ c.in_ok-special.ensures)
          c.args.left.now c.loop-head.left c.build.new.left c.loop-head.arms c.loop-head.invariant.left c.loop-head.invariant.arms c.in_ok-under.field-0 c.in_ok-under.ensures c.in-Some.under c.in-Some.is _ c.in_ok-push.ensures.ok;
      left = arm-sum c.args.types.now c.args.column.now c.args.rest.now c.args.rows.now c.requires.heads c.args.heads.now c.loop-head.head-index _ c.loop-head-test.true
          (get-same c.args.heads.now c.loop-head.head-index _ _ c.loop-head-test.true) _ c.fields_of_head-fields.ensures _ (c.as_slice.ensures ∙ c.in_ok-columns.ensures) _ refl _ (c.as_slice-in-loop-head.ensures ∙ c.in_ok-special.ensures)
          c.args.left.now c.loop-head.left c.build.new.left c.loop-head.arms c.loop-head.invariant.left c.loop-head.invariant.arms c.in_ok-under.field-0 c.in_ok-under.ensures c.in-Some.under c.in-Some.is _ c.in_ok-push.ensures.ok;
    }

pub build_arms-returns : goal.build_arms-returns
build_arms-returns t c =
    all-done c.args.types.now c.args.column.now c.args.rest.now c.args.rows.now c.args.heads.now c.loop-head.head-index c.args.left.now c.loop-head.left c.loop-head.arms
    c.loop-head-test.false c.loop-head.invariant.left c.loop-head.invariant.arms

pub build_test-returns-in_default-2 : goal.build_test-returns-in_default-2
build_test-returns-in_default-2 t c =
    arms-over c.args.types.now c.args.columns.now c.column-item.result _ c.args.rows.now (split-rest c.args.columns.now c.column-item.result c.in-len1-up.len_at_least c.column-item.is) _
    (c.as_slice.ensures.value ∙ c.in_ok-heads.ensures) c.args.left.now c.build_arms.new.left c.requires.some c.in_ok-arms.field-0 c.in_ok-arms.ensures c.in_default-2.is

pub build_test-returns-then-full : goal.build_test-returns-then-full
build_test-returns-then-full t c =
    full-built c.args.types.now c.args.columns.now c.column-item.result _ c.args.rows.now (split-rest c.args.columns.now c.column-item.result c.in-len1-up.len_at_least c.column-item.is) _
    (c.as_slice.ensures.value ∙ c.in_ok-heads.ensures) c.args.left.now c.build_arms.new.left c.requires.some c.in_ok-arms.field-0 c.in_ok-arms.ensures
    c.in-Some.arms c.in-Some.is c.in_ok-position.position c.in_ok-position.ensures c.in_ok-full.full
    (c.in_ok-full.ensures ∙ ap (is_complete c.args.types.now c.column-item.result.ty) (c.as_slice-2.ensures.value ∙ sym c.as_slice.ensures.value)) c.if-full.true

pub build_test-build-requires : goal.build_test-build-requires
build_test-build-requires t c =
    let rest = c.as_slice-3.ensures ∙ c.in_ok-others.ensures in
    let less = default-less c.args.rows.now c.requires.heads in
    let same = ap count_of_heads rest in
    omega (arith, less, c.decreases, same)

pub build_test-returns-in_default-3 : goal.build_test-returns-in_default-3
build_test-returns-in_default-3 t c =
    rest-over c.args.types.now c.args.columns.now c.column-item.result _ c.args.rows.now (split-rest c.args.columns.now c.column-item.result c.in-len1-up.len_at_least c.column-item.is) _
    (c.as_slice.ensures.value ∙ c.in_ok-heads.ensures) c.args.left.now c.build_arms.new.left c.requires.some c.in_ok-arms.field-0 c.in_ok-arms.ensures
    c.in-Some.arms c.in-Some.is c.in_ok-position.position c.in_ok-position.ensures c.in_ok-full.full
    (c.in_ok-full.ensures ∙ ap (is_complete c.args.types.now c.column-item.result.ty) (c.as_slice-2.ensures.value ∙ sym c.as_slice.ensures.value)) c.if-full.false
    _ (c.as_slice-3.ensures ∙ c.in_ok-others.ensures) c.build.new.left c.in_ok-other.field-0 c.requires.heads c.in_ok-other.ensures c.in_default-3.is

pub build_test-returns : goal.build_test-returns
build_test-returns t c =
    rest-built c.args.types.now c.args.columns.now c.column-item.result _ c.args.rows.now (split-rest c.args.columns.now c.column-item.result c.in-len1-up.len_at_least c.column-item.is) _
    (c.as_slice.ensures.value ∙ c.in_ok-heads.ensures) c.args.left.now c.build_arms.new.left c.requires.some c.in_ok-arms.field-0 c.in_ok-arms.ensures
    c.in-Some.arms c.in-Some.is c.in_ok-position.position c.in_ok-position.ensures c.in_ok-full.full
    (c.in_ok-full.ensures ∙ ap (is_complete c.args.types.now c.column-item.result.ty) (c.as_slice-2.ensures.value ∙ sym c.as_slice.ensures.value)) c.if-full.false
    _ (c.as_slice-3.ensures ∙ c.in_ok-others.ensures) c.build.new.left c.in_ok-other.field-0 c.requires.heads c.in_ok-other.ensures c.in-Some-2.other c.in_ok-boxed.boxed c.in-Some-2.is c.in_ok-boxed.ensures
