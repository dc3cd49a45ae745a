use Rattle.std.proofs.Common.{◌/◌, ◌+◌, refl, sym, subst, arith}
use Rattle.std.specs.Prelude.{IsOk}
use Rattle.rb_bytes.specs.Memory.{store_of}
use Rattle.rb_raw.specs.Marks.{memory_of}
use Rattle.rb_raw.specs.declared.memory.RawMemory.TheInside.{Inside}
use Rattle.rb_raw.proofs.RawLemmas.{store_lies, access_below, store_kept, store_is}
use Rattle.rb_raw.proofs.memory.RawMemoryByteMemory.store.Goals as goal

pub overflow_add-base : goal.overflow_add-base
overflow_add-base c =
    let ok = subst (λ m. IsOk (store_of m c.args.base c.args.offset c.args.width c.args.word).0) (sym c.self.view_is) (c.requires.unchecked refl) in
    let lies = store_lies (memory_of c.self.inside) c.args.base c.args.offset c.args.width c.args.word ok in
    omega (arith, (access_below c.self.inside c.self.invariant c.args.base (c.args.offset + c.args.width / 8) lies).2)

pub write_word-requires-clause-within : goal.write_word-requires-clause-within
write_word-requires-clause-within c =
    let ok = subst (λ m. IsOk (store_of m c.args.base c.args.offset c.args.width c.args.word).0) (sym c.self.view_is) (c.requires.unchecked refl) in
    let lies = store_lies (memory_of c.self.inside) c.args.base c.args.offset c.args.width c.args.word ok in
    omega (arith, (access_below c.self.inside c.self.invariant c.args.base (c.args.offset + c.args.width / 8) lies).1)

pub write_word-requires-clause-small : goal.write_word-requires-clause-small
write_word-requires-clause-small c =
    let ok = subst (λ m. IsOk (store_of m c.args.base c.args.offset c.args.width c.args.word).0) (sym c.self.view_is) (c.requires.unchecked refl) in
    let lies = store_lies (memory_of c.self.inside) c.args.base c.args.offset c.args.width c.args.word ok in
    omega (arith, (access_below c.self.inside c.self.invariant c.args.base (c.args.offset + c.args.width / 8) lies).2)

pub invariant_of-self : goal.invariant_of-self
invariant_of-self c =
    let r = c.self.inside in
    let n = c.args.width / 8 in
    let ok = subst (λ m. IsOk (store_of m c.args.base c.args.offset c.args.width c.args.word).0) (sym c.self.view_is) (c.requires.unchecked refl) in
    let lies = store_lies (memory_of r) c.args.base c.args.offset c.args.width c.args.word ok in
    let below = access_below r c.self.invariant c.args.base (c.args.offset + n) lies in
    let r' : Inside = record { bytes = c.write_word.new.self; marks = r.marks; blocks = r.blocks; next = r.next; limit = r.limit } in
    store_kept r r' c.self.invariant (c.args.base + c.args.offset) n c.args.word (omega (arith, below.0)) c.write_word.ensures refl refl refl refl

pub returns-clause-value : goal.returns-clause-value
returns-clause-value c =
    let r = c.self.inside in
    let ok = subst (λ m. IsOk (store_of m c.args.base c.args.offset c.args.width c.args.word).0) (sym c.self.view_is) (c.requires.unchecked refl) in
    let lies = store_lies (memory_of r) c.args.base c.args.offset c.args.width c.args.word ok in
    let r' : Inside = record { bytes = c.write_word.new.self; marks = r.marks; blocks = r.blocks; next = r.next; limit = r.limit } in
    rw (← c.self.view_is) (store_is r r' c.args.base c.args.offset c.args.width c.args.word lies c.write_word.ensures refl refl refl)

pub returns-clause-good : goal.returns-clause-good
returns-clause-good c = (invariant_of-self c).good
