use Rattle.std.proofs.Common.{◌≡◌, ◌+◌, ◌-◌, ◌<◌, length, get_or, List, sym, subst, ap, ◌∙◌, arith}
use Rattle.std.specs.Prelude.{slice_index}
use Rattle.std.specs.Option.{option_copied}
use Rattle.std.proofs.lemmas.Option.{get_or_from_slice_get}
use Rattle.rb_layout.specs.declared.layout.Block.{Block}
use Rattle.rb_coding.specs.inner.Loading.{AreLoaded, CanLoad}
use Rattle.rb_coding.proofs.PlaceLemmas.{got}
use Rattle.rb_coding.proofs.LoadLemmas.{Loading, loading_start, can_load, loading_next, loading_done}
use Rattle.rb_coding.proofs.loading.load_blocks.Goals as goal

pub loop-b-init : goal.loop-b-init
loop-b-init g c =
    let m = g.M.ByteMemory.memory c.args.memory.now in
    rw (c.as_slice-blocks.ensures, c.new-loaded.ensures)
    (loading_start c.args.leaf.now c.args.words.now m c.requires.good c.requires.placed c.in_ok-addresses.addresses c.put_words.new.table
    (rw c.as_slice-blocks.ensures at c.in_ok-addresses.ensures) (rw c.as_slice.ensures at c.put_words.ensures))

pub load_words-requires-clause-loads : goal.load_words-requires-clause-loads
load_words-requires-clause-loads g c =
    let m = g.M.ByteMemory.memory c.args.memory.now in
    let leaf = c.args.leaf.now in
    let b = c.loop-b.b - 1 in
    let some = c.loop-b-test.true in
    let count = c.loop-b.invariant.count in
    let up : c.loop-b.b ≡ b + 1 = omega (arith, some) in
    let lt : b < length leaf.blocks = omega (arith, some, count) in
    let block = c.index-blocks-b.result in
    let fl : c.as_slice-flats.result.now ≡ block.words = c.as_slice-flats.ensures ∙ ap (λ (x : Block). x.words) (sym c.index-blocks-b.is) in
    let at = got leaf.blocks b block lt (c.index-blocks-b.is ∙ ap (λ (xs : List Block). get_or xs b block) c.as_slice-blocks.ensures) in
    let h = subst (λ x. Loading leaf c.args.words.now m x c.loop-b.addresses c.loop-b.loaded) up c.loop-b.invariant in
    let base : slice_index c.loop-b.addresses b ≡ c.in-Some.address.now = get_or_from_slice_get c.loop-b.addresses b c.in-Some.address.now 0 (sym (ap option_copied (sym c.in-Some.is) ∙ c.get.ensures.value)) in
    subst (λ fs. CanLoad m c.in-Some.address.now fs) (sym fl)
    (subst (λ a. CanLoad m a block.words) base (can_load leaf c.args.words.now m c.requires.good c.requires.placed b block at c.loop-b.addresses c.loop-b.loaded h))

pub loop-b-preserved : goal.loop-b-preserved
loop-b-preserved g c =
    let m = g.M.ByteMemory.memory c.args.memory.now in
    let leaf = c.args.leaf.now in
    let b = c.loop-b.b - 1 in
    let some = c.loop-b-test.true in
    let count = c.loop-b.invariant.count in
    let up : c.loop-b.b ≡ b + 1 = omega (arith, some) in
    let lt : b < length leaf.blocks = omega (arith, some, count) in
    let block = c.index-blocks-b.result in
    let fl : c.as_slice-flats.result.now ≡ block.words = c.as_slice-flats.ensures ∙ ap (λ (x : Block). x.words) (sym c.index-blocks-b.is) in
    let at = got leaf.blocks b block lt (c.index-blocks-b.is ∙ ap (λ (xs : List Block). get_or xs b block) c.as_slice-blocks.ensures) in
    let h = subst (λ x. Loading leaf c.args.words.now m x c.loop-b.addresses c.loop-b.loaded) up c.loop-b.invariant in
    let base : slice_index c.loop-b.addresses b ≡ c.in-Some.address.now = get_or_from_slice_get c.loop-b.addresses b c.in-Some.address.now 0 (sym (ap option_copied (sym c.in-Some.is) ∙ c.get.ensures.value)) in
    let are = subst (λ fs. AreLoaded m c.in-Some.address.now fs c.in_ok-found.found) fl c.in_ok-found.ensures in
    loading_next leaf c.args.words.now m c.requires.good c.requires.placed b block at c.loop-b.addresses c.loop-b.loaded h c.in_ok-found.found c.put_words-in-loop-b.new.table c.push.new.self
    (subst (λ a. AreLoaded m a block.words c.in_ok-found.found) (sym base) are)
    (rw (fl, c.as_slice-in-loop-b.ensures) at c.put_words-in-loop-b.ensures) c.in_ok-push.ensures.ok

pub returns : goal.returns
returns g c =
    let m = g.M.ByteMemory.memory c.args.memory.now in
    let none = c.loop-b-test.false in
    let zero : c.loop-b.b ≡ 0 = omega (arith, none) in
    loading_done c.args.leaf.now c.args.words.now m c.requires.good c.requires.placed c.loop-b.addresses c.loop-b.loaded
    (subst (λ x. Loading c.args.leaf.now c.args.words.now m x c.loop-b.addresses c.loop-b.loaded) zero c.loop-b.invariant)
