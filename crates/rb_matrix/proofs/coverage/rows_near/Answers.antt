use Rattle.std.proofs.Common.{◌≡◌, ℕ, Some, None, refl, sym, subst, ap, List, ◌∷◌, ◌++◌, [], take, ◌+◌, ◌∙◌}
use Rattle.std.specs.Prelude.{slice_get, slice_index_or}
use Rattle.std.specs.Bool.{OnTrue}
use Rattle.std.proofs.lemmas.Bool.{false≢true}
use Rattle.std.proofs.lemmas.List.{take_more, take_all}
use Rattle.std.proofs.lemmas.Option.{slice_get_read, slice_get_past}
use Rattle.rb_core.specs.declared.pattern.Pat.{Pat}
use Rattle.rb_core.specs.Matching.{option_matches}
use Rattle.rb_matrix.specs.Apart.{PatternsAreApart}
use Rattle.rb_matrix.specs.inner.Against.{AreRowsNear}
use Rattle.rb_matrix.proofs.Differing.{rows-none, rows-same, rows-more}
use Rattle.rb_matrix.proofs.coverage.rows_near.Goals as goal

pub loop-number-init : goal.loop-number-init
loop-number-init c =
    let pats = c.args.pats.now in let p = c.args.pat.now in
    subst (λ (rows : List (List Pat)). AreRowsNear p pats [] rows) (sym c.new-rows.ensures) (rows-none p pats)

pub loop-number-preserved-in_default : goal.loop-number-preserved-in_default
loop-number-preserved-in_default c =
    let pats = c.args.pats.now in let p = c.args.pat.now in let js = c.args.numbers.now in let i = c.loop-number.number-index in
    let j = slice_index_or js i 0 in
    let none : slice_get pats j ≡ None = slice_get_past pats j c.in_default.ensures.lookup.3 in
    rows-same p pats (take i js) (take (i + 1) js) c.loop-number.rows j (take_more js i 0 c.loop-number-test.true) c.loop-number.invariant
    (λ v m e. false≢true (sym (ap (λ o. option_matches o v) none) ∙ e))

pub returns : goal.returns
returns c =
    let pats = c.args.pats.now in let p = c.args.pat.now in let js = c.args.numbers.now in let i = c.loop-number.number-index in
    subst (λ (ns : List ℕ). AreRowsNear p pats ns c.loop-number.rows) (take_all i js c.loop-number-test.false) c.loop-number.invariant

pub loop-number-preserved-then-are_apart : goal.loop-number-preserved-then-are_apart
loop-number-preserved-then-are_apart c =
    let pats = c.args.pats.now in let p = c.args.pat.now in let js = c.args.numbers.now in let i = c.loop-number.number-index in let q = c.in-Some.other.now in
    let j = slice_index_or js i 0 in
    let at : slice_get pats j ≡ Some q = slice_get_read pats _ j q refl c.in-Some.ensures.lookup.3.0 c.in-Some.ensures.lookup.1 in
    let apart = subst (λ b. OnTrue b (PatternsAreApart q p)) c.if-are_apart.true c.are_apart.ensures in
    rows-same p pats (take i js) (take (i + 1) js) c.loop-number.rows j (take_more js i 0 c.loop-number-test.true) c.loop-number.invariant
    (λ v m e. apart v (sym (ap (λ o. option_matches o v) at) ∙ e) m)

pub loop-number-preserved : goal.loop-number-preserved
loop-number-preserved c =
    let pats = c.args.pats.now in let p = c.args.pat.now in let js = c.args.numbers.now in let i = c.loop-number.number-index in let q = c.in-Some.other.now in
    let j = slice_index_or js i 0 in
    let at : slice_get pats j ≡ Some q = slice_get_read pats _ j q refl c.in-Some.ensures.lookup.3.0 c.in-Some.ensures.lookup.1 in
    rows-more p pats (take i js) (take (i + 1) js) c.loop-number.rows c.push.new.self j q (take_more js i 0 c.loop-number-test.true)
    (c.in_ok-push.ensures.ok ∙ ap (λ r. c.loop-number.rows ++ r ∷ []) c.in_ok-row_of.ensures) at c.loop-number.invariant
