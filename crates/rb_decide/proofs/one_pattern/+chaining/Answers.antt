use Rattle.std.proofs.Common.{◌+◌, ◌-◌, ◌<◌, length, ◌∙◌, arith}
use Rattle.rb_decide.proofs.Building.{get-same}
use Rattle.rb_decide.proofs.Chaining.{one-of, from-end, from-next, all-fields, other-fields}
use Rattle.rb_decide.proofs.one_pattern.+chaining.Goals as goal

pub add_fields-returns-then-fields-count : goal.add_fields-returns-then-fields-count
add_fields-returns-then-fields-count t c =
    other-fields c.args.types.now c.args.position.now c.args.fields.now c.args.subs.now c.args.nodes.now c.args.under c.requires.fine c.if-fields-count.true

pub add_fields-loop-i-init : goal.add_fields-loop-i-init
add_fields-loop-i-init t c =
    from-end c.args.types.now c.args.position.now c.args.fields.now c.args.subs.now (length c.args.subs.now - 0) c.args.nodes.now c.args.under (omega arith) c.requires.fine c.requires.within

pub add_fields-add_pattern-requires : goal.add_fields-add_pattern-requires
add_fields-add_pattern-requires t c =
    let le = one-of c.args.subs.now (length c.args.subs.now - 1 - c.loop-i.i) c.index-subs-field.result (omega (arith, c.loop-i-test.true)) c.index-subs-field.is in
    (omega (arith, le, c.decreases), (c.loop-i.invariant.fine, c.loop-i.invariant.within))

pub add_fields-loop-i-preserved : goal.add_fields-loop-i-preserved
add_fields-loop-i-preserved t c =
    let subs = c.args.subs.now in
    let fields = c.args.fields.now in
    let lt = c.loop-i-test.true in
    let field = length subs - 1 - c.loop-i.i in
    let within : field < length fields = omega (arith, lt, c.if-fields-count.false) in
    from-next c.args.types.now c.args.position.now fields subs (length subs - (c.loop-i.i + 1)) field (length subs - c.loop-i.i) c.index-subs-field.result _ c.as_slice-place.result.now
    c.args.nodes.now c.args.under c.loop-i.nodes c.loop-i.first c.add_pattern.new.nodes c.in_ok-first.first (omega (arith, lt)) (omega (arith, lt)) (omega (arith, lt)) c.index-subs-field.is
    (omega (arith, lt, c.if-fields-count.false)) (get-same fields field _ _ within) (c.as_slice-place.ensures ∙ c.in_ok-place.ensures) c.loop-i.invariant c.in_ok-first.ensures

pub add_fields-returns : goal.add_fields-returns
add_fields-returns t c =
    all-fields c.args.types.now c.args.position.now c.args.fields.now c.args.subs.now c.args.nodes.now c.args.under c.loop-i.nodes c.loop-i.first (length c.args.subs.now - c.loop-i.i)
    (omega (arith, c.loop-i-test.false)) c.if-fields-count.false c.loop-i.invariant
