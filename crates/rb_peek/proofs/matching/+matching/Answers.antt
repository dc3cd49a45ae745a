use Rattle.std.proofs.Common.{Bool, map, length, refl, ap, arith}
use Rattle.std.proofs.lemmas.Option.{slice_get_read}
use Rattle.rb_image.proofs.LookLemmas.{given_on}
use Rattle.rb_peek.specs.Rebuilds.{match_fields, matches}
use Rattle.rb_peek.specs.inner.Standing.{position_shown}
use Rattle.rb_peek.proofs.MatchLemmas.{field_err, field_ok, weight_among, weight_con, weights}
use Rattle.rb_peek.proofs.matching.+matching.Goals as goal

pub matches-match_con-requires : goal.matches-match_con-requires
matches-match_con-requires t c =
    let m = c.args.image.now.blocks in
    let all = weight_con c.args.prov.now c.in-Con.field-0 c.in-Con.con c.in-Con.pats c.in-Con.is in
    let same = ap weights c.as_slice.ensures in
    (omega (arith, all, same, c.decreases), (c.requires.placed, c.view.ensures.shown m c.in_ok-own-in-Con.ensures.read))

pub match_fields-match_field-requires : goal.match_fields-match_field-requires
match_fields-match_field-requires t c =
    let pats = c.args.pats.now in
    let among = weight_among pats c.loop-i.i c.index-pats-i.result (slice_get_read pats (length pats) c.loop-i.i c.index-pats-i.result refl c.loop-i-test.true c.index-pats-i.is) in
    (omega (arith, among, c.decreases), (c.requires.placed, c.requires.shown))

pub match_field-matches-requires : goal.match_field-matches-requires
match_field-matches-requires t c = (omega (arith, c.decreases), (c.requires.placed, c.in-Some.ensures.shown))

pub match_fields-returns-in_err-match_field : goal.match_fields-returns-in_err-match_field
match_fields-returns-in_err-match_field t c =
    let types = c.args.agreed.now.covered.program.types in
    let layouts = c.args.agreed.now.layouts in
    let m = c.args.image.now.blocks in
    let x = position_shown c.args.view.now in
    let pats = c.args.pats.now in
    let i = c.loop-i.i in
    let pat = c.index-pats-i.result in
    let is = slice_get_read pats (length pats) i pat refl c.loop-i-test.true c.index-pats-i.is in
    let due = match_fields types (map (matches types layouts m) pats) x 0 in
    given_on (λ (so : Bool). so) due c.from_residual.result _ c.from_residual.ensures.0 c.from_residual.ensures.1
    (field_err types layouts m pats i pat x is due c.loop-i.invariant _ c.in_err-match_field.ensures)

pub match_fields-loop-i-preserved : goal.match_fields-loop-i-preserved
match_fields-loop-i-preserved t c =
    let types = c.args.agreed.now.covered.program.types in
    let layouts = c.args.agreed.now.layouts in
    let m = c.args.image.now.blocks in
    let x = position_shown c.args.view.now in
    let pats = c.args.pats.now in
    let i = c.loop-i.i in
    let pat = c.index-pats-i.result in
    let is = slice_get_read pats (length pats) i pat refl c.loop-i-test.true c.index-pats-i.is in
    let due = match_fields types (map (matches types layouts m) pats) x 0 in
    field_ok types layouts m pats i pat x is due c.loop-i.invariant _ c.in_ok-match_field.ensures c.if-not-branch.false
