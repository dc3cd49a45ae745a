use Rattle.std.proofs.Common.{◌≡◌, ◌+◌, ◌/◌, length, refl, sym, ap, ◌∙◌, arith}
use Rattle.std.specs.Vec.{with_items}
use Rattle.std.proofs.lemmas.List.{with_items_is}
use Rattle.rb_bytes.specs.Starts.{marked_bytes}
use Rattle.rb_bytes.specs.declared.checked.CheckedMemory.TheInside.{Inside}
use Rattle.rb_bytes.proofs.MemoryLemmas.{store_astray}
use Rattle.rb_bytes.proofs.CheckedLemmas.{within_bytes, stored_memory, store_is, store_kept}
use Rattle.rb_bytes.proofs.checked.CheckedMemoryByteMemory.store.Goals as goal

pub returns-then-not-holds-clause-value : goal.returns-then-not-holds-clause-value
returns-then-not-holds-clause-value c = sym (store_astray c.args.self.now c.args.base c.args.offset c.args.width c.args.word (sym c.holds.ensures.value ∙ c.if-not-holds.true))

pub invariant_of-self : goal.invariant_of-self
invariant_of-self c =
    let f = c.self.inside in
    let n = c.args.width / 8 in
    let at = c.args.base + c.args.offset in
    let new_bytes = c.write_word.new.bytes in
    let new_marks = c.write_word.new.marks in
    let c' : Inside = record { bytes = with_items f.bytes new_bytes; marks = with_items f.marks new_marks; sizes = f.sizes; blocks = f.blocks; next = f.next; limit = f.limit } in
    let lies = rw (← c.self.view_is) at (sym c.if-not-holds.ensures.value) in
    let below = within_bytes f c.self.invariant c.args.base (c.args.offset + n) lies in
    let marks : c'.marks.items ≡ new_marks = with_items_is f.marks new_marks (c.write_word.auto.marks ∙ c.as_mut_slice.ensures.len) in
    let bytes : c'.bytes.items ≡ new_bytes = with_items_is f.bytes new_bytes (c.write_word.auto.bytes ∙ c.as_mut_slice-2.ensures.len) in
    let value = ap (λ xs. marked_bytes xs c'.bytes.items) marks ∙ ap (marked_bytes new_marks) bytes ∙ rw c.as_mut_slice-2.ensures.value at (rw c.as_mut_slice.ensures.value at c.write_word.ensures) in
    let marks_long : length c'.marks.items ≡ length f.marks.items = omega (arith, ap length marks, c.write_word.auto.marks, c.as_mut_slice.ensures.len, f.marks.ok.0) in
    let bytes_long : length c'.bytes.items ≡ length f.bytes.items = omega (arith, ap length bytes, c.write_word.auto.bytes, c.as_mut_slice-2.ensures.len, f.bytes.ok.0) in
    store_kept f c' c.self.invariant at n c.args.word (omega (arith, below)) value marks_long bytes_long refl c.self.invariant.room refl refl refl

pub returns-clause-value : goal.returns-clause-value
returns-clause-value c =
    let f = c.self.inside in
    let n = c.args.width / 8 in
    let at = c.args.base + c.args.offset in
    let new_bytes = c.write_word.new.bytes in
    let new_marks = c.write_word.new.marks in
    let c' : Inside = record { bytes = with_items f.bytes new_bytes; marks = with_items f.marks new_marks; sizes = f.sizes; blocks = f.blocks; next = f.next; limit = f.limit } in
    let lies = rw (← c.self.view_is) at (sym c.if-not-holds.ensures.value) in
    let below = within_bytes f c.self.invariant c.args.base (c.args.offset + n) lies in
    let marks : c'.marks.items ≡ new_marks = with_items_is f.marks new_marks (c.write_word.auto.marks ∙ c.as_mut_slice.ensures.len) in
    let bytes : c'.bytes.items ≡ new_bytes = with_items_is f.bytes new_bytes (c.write_word.auto.bytes ∙ c.as_mut_slice-2.ensures.len) in
    let value = ap (λ xs. marked_bytes xs c'.bytes.items) marks ∙ ap (marked_bytes new_marks) bytes ∙ rw c.as_mut_slice-2.ensures.value at (rw c.as_mut_slice.ensures.value at c.write_word.ensures) in
    let marks_long : length c'.marks.items ≡ length f.marks.items = omega (arith, ap length marks, c.write_word.auto.marks, c.as_mut_slice.ensures.len, f.marks.ok.0) in
    let bytes_long : length c'.bytes.items ≡ length f.bytes.items = omega (arith, ap length bytes, c.write_word.auto.bytes, c.as_mut_slice-2.ensures.len, f.bytes.ok.0) in
    rw (← c.self.view_is) (store_is f c' c.args.base c.args.offset c.args.width c.args.word lies (stored_memory f c' c.self.invariant at n c.args.word (omega (arith, below)) value marks_long bytes_long refl c.self.invariant.room refl refl refl))

pub returns-clause-good : goal.returns-clause-good
returns-clause-good c =
    let f = c.self.inside in
    let n = c.args.width / 8 in
    let at = c.args.base + c.args.offset in
    let new_bytes = c.write_word.new.bytes in
    let new_marks = c.write_word.new.marks in
    let c' : Inside = record { bytes = with_items f.bytes new_bytes; marks = with_items f.marks new_marks; sizes = f.sizes; blocks = f.blocks; next = f.next; limit = f.limit } in
    let lies = rw (← c.self.view_is) at (sym c.if-not-holds.ensures.value) in
    let below = within_bytes f c.self.invariant c.args.base (c.args.offset + n) lies in
    let marks : c'.marks.items ≡ new_marks = with_items_is f.marks new_marks (c.write_word.auto.marks ∙ c.as_mut_slice.ensures.len) in
    let bytes : c'.bytes.items ≡ new_bytes = with_items_is f.bytes new_bytes (c.write_word.auto.bytes ∙ c.as_mut_slice-2.ensures.len) in
    let value = ap (λ xs. marked_bytes xs c'.bytes.items) marks ∙ ap (marked_bytes new_marks) bytes ∙ rw c.as_mut_slice-2.ensures.value at (rw c.as_mut_slice.ensures.value at c.write_word.ensures) in
    let marks_long : length c'.marks.items ≡ length f.marks.items = omega (arith, ap length marks, c.write_word.auto.marks, c.as_mut_slice.ensures.len, f.marks.ok.0) in
    let bytes_long : length c'.bytes.items ≡ length f.bytes.items = omega (arith, ap length bytes, c.write_word.auto.bytes, c.as_mut_slice-2.ensures.len, f.bytes.ok.0) in
    (store_kept f c' c.self.invariant at n c.args.word (omega (arith, below)) value marks_long bytes_long refl c.self.invariant.room refl refl refl).good
