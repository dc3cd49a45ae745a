use Rattle.std.proofs.Common.{◌≡◌, ◌<◌, ◌++◌, ◌∙◌, ℕ, length, map, take, sym, ap, arith, Some}
use Rattle.std.specs.Prelude.{slice_get}
use Rattle.std.proofs.lemmas.Option.{same_Some, slice_get-get_or}
use Rattle.rb_core.proofs.TextLemmas.{appended}
use Rattle.rb_image_text.specs.MemoryImages.{block_over}
use Rattle.rb_image_text.specs.Text.{block_text, blocks_text}
use Rattle.rb_lines.proofs.ImageTexts.{block_within, next_block, parted_next}
use Rattle.rb_lines.proofs.TextLaws.{mapped_next}
use Rattle.rb_lines.proofs.image_text.push_blocks.Goals as goal

pub unreachable-requires : goal.unreachable-requires
unreachable-requires c =
    let m = c.args.memory.now in
    let lt : c.loop-turn._turn < length m.blocks = omega (arith, c.loop-turn-test.true, c.blocks-turn-end.ensures.value) in
    let next = next_block m c.loop-turn._turn c.loop-turn.from c.block_from.result c.loop-turn.invariant.parted c.block_from.ensures in
    let there = slice_get-get_or m.blocks c.loop-turn._turn (0, 0) lt in
    let is = sym c.in-None.is ∙ next ∙ there in
    absurd (cc is)

pub push_block-requires : goal.push_block-requires
push_block-requires c =
    let m = c.args.memory.now in
    let next = next_block m c.loop-turn._turn c.loop-turn.from c.block_from.result c.loop-turn.invariant.parted c.block_from.ensures in
    let at : slice_get m.blocks c.loop-turn._turn ≡ Some (c.in-Some.address, c.in-Some.size) = sym next ∙ c.in-Some.is in
    let within = block_within m.blocks 64 m.next c.requires.blocks c.loop-turn._turn (c.in-Some.address, c.in-Some.size) at in
    omega (arith, within.2, c.requires.next, c.requires.limit)

pub overflow_add-from : goal.overflow_add-from
overflow_add-from c =
    let m = c.args.memory.now in
    let next = next_block m c.loop-turn._turn c.loop-turn.from c.block_from.result c.loop-turn.invariant.parted c.block_from.ensures in
    let at : slice_get m.blocks c.loop-turn._turn ≡ Some (c.in-Some.address, c.in-Some.size) = sym next ∙ c.in-Some.is in
    let within = block_within m.blocks 64 m.next c.requires.blocks c.loop-turn._turn (c.in-Some.address, c.in-Some.size) at in
    omega (arith, within.2, c.requires.next, c.requires.limit)

pub loop-turn-preserved : goal.loop-turn-preserved
loop-turn-preserved c =
    let m = c.args.memory.now in
    let turn = c.loop-turn._turn in
    let b : ℕ × ℕ = (c.in-Some.address, c.in-Some.size) in
    let lt : turn < length m.blocks = omega (arith, c.loop-turn-test.true, c.blocks-turn-end.ensures.value) in
    let next = next_block m turn c.loop-turn.from c.block_from.result c.loop-turn.invariant.parted c.block_from.ensures in
    let at : slice_get m.blocks turn ≡ Some b = sym next ∙ c.in-Some.is in
    let item = same_Some _ b (sym (slice_get-get_or m.blocks turn b lt) ∙ at) in
    record {
      shown = appended _ _ _ _ _ _ c.loop-turn.invariant.shown c.in_ok-push_block-in-Some.ensures
          (mapped_next block_text (block_over m) m.blocks turn b lt
          ∙ ap (λ x. blocks_text (map (block_over m) (take turn m.blocks)) ++ block_text (block_over m x)) item);
      parted = parted_next m.blocks 64 m.next turn c.loop-turn.from c.requires.blocks c.loop-turn.invariant.parted b at;
    }
