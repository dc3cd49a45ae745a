use Rattle.std.proofs.Common.{List, length, subst}
use Rattle.rb_layout.specs.declared.layout.Block.{Block}
use Rattle.rb_layout.specs.declared.layout.FlatWord.{FlatWord}
use Rattle.rb_agree.specs.inner.Gathered.{Gathers, blocks_runs, words_runs}
use Rattle.rb_agree.proofs.Gathering.{all-gathered}
use Rattle.rb_agree.proofs.runs.runs_of.Goals as goal

pub returns : goal.returns
returns c =
    all-gathered c.args.places.now c.args.leaf.now c.in_ok-rows.rows c.add_words.new.rows c.add_blocks.new.rows (length c.args.places.now) c.in_ok-rows.ensures
    (subst (λ (ws : List FlatWord). Gathers c.args.places.now (words_runs ws) c.in_ok-rows.rows c.add_words.new.rows) c.as_slice.ensures c.in_ok-add_words.ensures)
    (subst (λ (bs : List Block). Gathers c.args.places.now (blocks_runs bs) c.add_words.new.rows c.add_blocks.new.rows) c.as_slice-2.ensures c.in_ok-add_blocks.ensures)
