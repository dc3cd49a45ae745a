use Rattle.std.proofs.Common.{◌<◌, map, Some, sym, ap, ◌∙◌, arith}
use Rattle.rb_bytes.specs.Starts.{size_in}
use Rattle.rb_bytes.proofs.CheckedLemmas.{start_here, no_start, size_in_some}
use Rattle.rb_bytes.proofs.BlockLemmas.{block_bounds}
use Rattle.rb_bytes.proofs.StartLemmas.{size_at-blocks_from}
use Rattle.rb_bytes.proofs.checked.CheckedMemory.size_at.Goals as goal

pub returns-then-base-len-clause-value : goal.returns-then-base-len-clause-value
returns-then-base-len-clause-value c =
    let sizes = c.self.inside.sizes.items in
    rw (← c.self.view_is) (sym (size_at-blocks_from (map size_in sizes) c.args.base ∙ no_start sizes c.args.base (omega arith)))

pub returns-in-0-clause-value : goal.returns-in-0-clause-value
returns-in-0-clause-value c =
    let sizes = c.self.inside.sizes.items in
    let here = start_here sizes c.args.base c.index.result.now (omega arith) ∙ ap size_in (sym c.index.ensures) ∙ ap size_in c.in-0.is in
    rw (← c.self.view_is) (sym (size_at-blocks_from (map size_in sizes) c.args.base ∙ here))

pub returns-in_default : goal.returns-in_default
returns-in_default c =
    let sizes = c.self.inside.sizes.items in
    let size = c.index.result.now in
    let pos : 0 < size = omega (arith, c.in_default) in
    let here = start_here sizes c.args.base size (omega arith) ∙ ap size_in (sym c.index.ensures) in
    let found = size_at-blocks_from (map size_in sizes) c.args.base ∙ here ∙ size_in_some size pos ∙ ap Some (sym c.from.ensures) in
    rw (← c.self.view_is)
    (record {
      value = sym found;
      within = (block_bounds _ c.args.base c.from.result 64 c.self.inside.next c.self.invariant.good.blocks found).2;
    })
