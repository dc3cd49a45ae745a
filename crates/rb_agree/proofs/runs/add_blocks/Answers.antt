use Rattle.std.proofs.Common.{◌+◌, List, drop, subst}
use Rattle.rb_layout.specs.declared.layout.FlatWord.{FlatWord}
use Rattle.rb_agree.specs.inner.Held.{block_runs}
use Rattle.rb_agree.specs.inner.Gathered.{Gathers, blocks_runs, words_runs}
use Rattle.rb_agree.proofs.Gathering.{rest-last, rest-next}
use Rattle.rb_agree.proofs.Lists.{flat-end, flat-next}
use Rattle.rb_agree.proofs.runs.add_blocks.Goals as goal

pub loop-block-preserved : goal.loop-block-preserved
loop-block-preserved c =
    rest-next c.args.places.now (blocks_runs c.args.blocks.now) (blocks_runs (drop c.loop-block.block-index c.args.blocks.now)) (blocks_runs (drop (c.loop-block.block-index + 1) c.args.blocks.now))
    (λ ty path. block_runs ty path c.block-item.result) c.args.rows.now c.loop-block.rows c.add_words.new.rows
    (λ ty path. flat-next (block_runs ty path) c.args.blocks.now c.loop-block.block-index c.block-item.result c.loop-block-test.true c.block-item.is)
    c.loop-block.invariant (subst (λ (xs : List FlatWord). Gathers c.args.places.now (words_runs xs) c.loop-block.rows c.add_words.new.rows) c.as_slice.ensures c.in_ok-add_words.ensures)

pub returns : goal.returns
returns c =
    rest-last c.args.places.now (blocks_runs c.args.blocks.now) (blocks_runs (drop c.loop-block.block-index c.args.blocks.now)) c.args.rows.now c.loop-block.rows
    (λ ty path. flat-end (block_runs ty path) c.args.blocks.now c.loop-block.block-index c.loop-block-test.false) c.loop-block.invariant
