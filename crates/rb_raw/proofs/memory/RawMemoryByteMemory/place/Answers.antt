use Rattle.std.proofs.Common.{◌+◌, ◌-◌, refl, arith}
use Rattle.std.specs.Prelude.{bit_or}
use Rattle.std.specs.Vec.{with_item}
use Rattle.rb_bytes.specs.Memory.{least_multiple}
use Rattle.rb_raw.specs.declared.memory.RawMemory.TheInside.{Inside}
use Rattle.rb_raw.proofs.RawLemmas.{blocks_few, place_kept, place_is}
use Rattle.rb_raw.proofs.memory.RawMemoryByteMemory.place.Goals as goal

pub overflow_add-self : goal.overflow_add-self
overflow_add-self c = omega (arith, blocks_few c.self.inside c.self.invariant)

pub invariant_of-self : goal.invariant_of-self
invariant_of-self c =
    let r = c.self.inside in
    let at = least_multiple r.next c.args.align in
    let m = c.index_mut.result.now in
    let n = c.index_mut-2.result.now in
    let r' : Inside = record { bytes = r.bytes; marks = with_item (with_item r.marks at (bit_or m 1)) (at + c.args.size - 1) (bit_or n 2); blocks = r.blocks + 1; next = at + c.args.size; limit = r.limit } in
    place_kept r r' c.self.invariant c.args.size c.args.align at m n c.requires.size.0 c.requires.align refl c.if-at-size.false c.index_mut.ensures.value c.index_mut-2.ensures.value refl refl refl refl refl

pub returns-clause-value : goal.returns-clause-value
returns-clause-value c =
    let r = c.self.inside in
    let at = least_multiple r.next c.args.align in
    let m = c.index_mut.result.now in
    let n = c.index_mut-2.result.now in
    let r' : Inside = record { bytes = r.bytes; marks = with_item (with_item r.marks at (bit_or m 1)) (at + c.args.size - 1) (bit_or n 2); blocks = r.blocks + 1; next = at + c.args.size; limit = r.limit } in
    rw (← c.self.view_is) (place_is r r' c.self.invariant c.args.size c.args.align at m n c.requires.size.0 c.requires.align refl c.if-at-size.false c.index_mut.ensures.value c.index_mut-2.ensures.value refl refl refl refl refl)

pub returns-clause-good : goal.returns-clause-good
returns-clause-good c = (invariant_of-self c).good
