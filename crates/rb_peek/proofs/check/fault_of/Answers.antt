use Rattle.std.proofs.Common.{[], ◌∷◌, ◌++◌, ◌+◌, drop, length, map, refl, sym, ap, ◌∙◌}
use Rattle.std.specs.Option.{option_or}
use Rattle.std.specs.Prelude.{slice_get}
use Rattle.std.proofs.lemmas.Option.{slice_get_read}
use Rattle.rb_image.proofs.DropLemmas.{drop_item}
use Rattle.rb_peek.specs.Walks.{seen_of}
use Rattle.rb_peek.specs.inner.Checking.{fault_of_seen, has_word}
use Rattle.rb_peek.proofs.check.fault_of.Goals as goal

pub fault_seen-requires-clause-passed : goal.fault_seen-requires-clause-passed
fault_seen-requires-clause-passed c =
    let items = c.as_slice-passed-items.result.now in
    let i = c.loop-passed.passed-index in
    c.requires.passed.before i _ (ap (λ xs. slice_get xs i) (sym c.as_slice-passed-items.ensures.value) ∙ slice_get_read items (length items) i _ refl c.loop-passed-test.true c.passed-item.is)

pub loop-passed-preserved : goal.loop-passed-preserved
loop-passed-preserved c =
    let first = fault_of_seen (has_word c.args.path.now) c.args.image.now.blocks in
    let last = seen_of c.args.walk.now.last in
    let items = c.as_slice-passed-items.result.now in
    let k = c.loop-passed.passed-index in
    let passed = c.passed-item.result in
    let is = slice_get_read items (length items) k passed refl c.loop-passed-test.true c.passed-item.is in
    c.loop-passed.invariant ∙ ap (λ xs. first (map seen_of xs ++ last ∷ [])) (drop_item items k passed is)
    ∙ ap (λ o. option_or o (first (map seen_of (drop (k + 1) items) ++ last ∷ []))) (sym c.in_ok-fault_seen.ensures ∙ c.in-None.is)
