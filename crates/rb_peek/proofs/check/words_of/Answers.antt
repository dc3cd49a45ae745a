use Rattle.std.proofs.Common.{length, refl, sym, ap, ◌∙◌}
use Rattle.std.specs.Prelude.{slice_get}
use Rattle.std.proofs.lemmas.Option.{slice_get_read}
use Rattle.std.proofs.lemmas.Result.{IfOk-weaker}
use Rattle.rb_peek.specs.Walks.{seen_of}
use Rattle.rb_peek.specs.inner.Checking.{is_kept_at}
use Rattle.rb_peek.proofs.CheckLemmas.{words_last, words_next}
use Rattle.rb_peek.proofs.check.words_of.Goals as goal

pub add_seen-requires-clause-passed : goal.add_seen-requires-clause-passed
add_seen-requires-clause-passed c =
    let items = c.as_slice-passed-items.result.now in
    let i = c.loop-passed.passed-index in
    c.requires.passed.before i _ (ap (λ xs. slice_get xs i) (sym c.as_slice-passed-items.ensures.value) ∙ slice_get_read items (length items) i _ refl c.loop-passed-test.true c.passed-item.is)

pub loop-passed-preserved : goal.loop-passed-preserved
loop-passed-preserved c =
    let items = c.as_slice-passed-items.result.now in
    let i = c.loop-passed.passed-index in
    let is = slice_get_read items (length items) i _ refl c.loop-passed-test.true c.passed-item.is in
    c.loop-passed.invariant
    ∙ words_next c.args.agreed.now.layouts c.args.image.now.blocks items (seen_of c.args.walk.now.last) i _ is c.loop-passed.found.items c.add_seen.new.found.items c.in_ok-add_seen.ensures

pub returns : goal.returns
returns c =
    let items = c.as_slice-passed-items.result.now in
    let i = c.loop-passed.passed-index in
    let all = c.loop-passed.invariant
    ∙ words_last c.args.agreed.now.layouts c.args.image.now.blocks items (seen_of c.args.walk.now.last) i c.loop-passed-test.false c.loop-passed.found.items c.add_seen-2.new.found.items c.in_ok-add_seen-2.ensures in
    IfOk-weaker c.of.result _ _ (λ found h base place. h base place ∙ ap (λ ks. is_kept_at ks base place) (c.as_slice-2.ensures.value ∙ sym all)) c.of.ensures
