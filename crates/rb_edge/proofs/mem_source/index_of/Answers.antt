use Rattle.std.proofs.Common.{sym, ◌∙◌, arith}
use Rattle.rb_edge.proofs.Files.{held_in-at}
use Rattle.rb_edge.proofs.mem_source.index_of.Goals as goal

pub returns-then-eq-clause-found : goal.returns-then-eq-clause-found
returns-then-eq-clause-found c =
    let same_name = rw c.as_slice.ensures at (sym c.eq.ensures ∙ c.if-eq.true) in
    sym c.loop-i.invariant ∙ held_in-at c.args.files.now c.args.name.now c.loop-i.i c.index-files-i.result (omega arith) c.index-files-i.is same_name
