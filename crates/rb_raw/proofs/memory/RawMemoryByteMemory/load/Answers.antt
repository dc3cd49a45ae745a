use Rattle.std.proofs.Common.{◌/◌, ◌+◌, refl, sym, subst, ◌∙◌, arith}
use Rattle.std.specs.Prelude.{IsOk}
use Rattle.rb_bytes.specs.Memory.{load_of}
use Rattle.rb_bytes.proofs.MemoryLemmas.{load_within}
use Rattle.rb_raw.specs.Marks.{memory_of}
use Rattle.rb_raw.proofs.RawLemmas.{load_lies, access_below}
use Rattle.rb_raw.proofs.memory.RawMemoryByteMemory.load.Goals as goal

pub overflow_add-base : goal.overflow_add-base
overflow_add-base c =
    let ok = subst (λ m. IsOk (load_of m c.args.base c.args.offset c.args.width)) (sym c.self.view_is) (c.requires.unchecked refl) in
    let lies = load_lies (memory_of c.self.inside) c.args.base c.args.offset c.args.width ok in
    omega (arith, (access_below c.self.inside c.self.invariant c.args.base (c.args.offset + c.args.width / 8) lies.0).2)

pub read_word-requires-clause-within : goal.read_word-requires-clause-within
read_word-requires-clause-within c =
    let ok = subst (λ m. IsOk (load_of m c.args.base c.args.offset c.args.width)) (sym c.self.view_is) (c.requires.unchecked refl) in
    let lies = load_lies (memory_of c.self.inside) c.args.base c.args.offset c.args.width ok in
    omega (arith, (access_below c.self.inside c.self.invariant c.args.base (c.args.offset + c.args.width / 8) lies.0).1)

pub read_word-requires-clause-small : goal.read_word-requires-clause-small
read_word-requires-clause-small c =
    let ok = subst (λ m. IsOk (load_of m c.args.base c.args.offset c.args.width)) (sym c.self.view_is) (c.requires.unchecked refl) in
    let lies = load_lies (memory_of c.self.inside) c.args.base c.args.offset c.args.width ok in
    omega (arith, (access_below c.self.inside c.self.invariant c.args.base (c.args.offset + c.args.width / 8) lies.0).2)

pub read_word-requires-clause-written : goal.read_word-requires-clause-written
read_word-requires-clause-written c =
    let ok = subst (λ m. IsOk (load_of m c.args.base c.args.offset c.args.width)) (sym c.self.view_is) (c.requires.unchecked refl) in
    (load_lies (memory_of c.self.inside) c.args.base c.args.offset c.args.width ok).1

pub returns : goal.returns
returns c =
    let ok = subst (λ m. IsOk (load_of m c.args.base c.args.offset c.args.width)) (sym c.self.view_is) (c.requires.unchecked refl) in
    let lies = load_lies (memory_of c.self.inside) c.args.base c.args.offset c.args.width ok in
    record { value = rw (← c.self.view_is) (c.read_word.ensures ∙ sym (load_within (memory_of c.self.inside) c.args.base c.args.offset c.args.width lies.0)) }
