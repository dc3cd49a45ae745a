use Rattle.std.proofs.Common.{◌≡◌, ◌≤◌, ◌+◌, ◌-◌, length, set, refl, ap, arith}
use Rattle.std.specs.Prelude.{vec_capacity, vec_len}
use Rattle.std.specs.Vec.{with_item}
use Rattle.rb_bytes.specs.Memory.{least_multiple}
use Rattle.rb_bytes.specs.declared.checked.CheckedMemory.TheInside.{Inside}
use Rattle.rb_bytes.proofs.CheckedLemmas.{below_place, blocks_few, resized_is, place_kept, place_is}
use Rattle.rb_bytes.proofs.checked.CheckedMemoryByteMemory.place.Goals as goal

pub overflow_add-self : goal.overflow_add-self
overflow_add-self c = omega (arith, blocks_few c.self.inside c.self.invariant)

pub invariant_of-self : goal.invariant_of-self
invariant_of-self c =
    let f = c.self.inside in
    let at = least_multiple f.next c.args.align in
    let more = at + c.args.size - length f.bytes.items in
    let count : length f.bytes.items + more ≡ at + c.args.size = omega (arith, below_place f c.self.invariant c.args.align at c.requires.align refl) in
    let even = c.self.invariant.even in
    let bytes = resized_is (at + c.args.size) more (vec_len f.bytes) f.bytes.items c.resize.new.self.items count (omega (arith, f.bytes.ok.0)) (rw c.unwrap.ensures at c.resize.ensures.items) in
    let marks = resized_is (at + c.args.size) more (vec_len f.marks) f.marks.items c.resize-2.new.self.items (omega (arith, count, even.0)) (omega (arith, f.marks.ok.0)) (rw c.unwrap-2.ensures at c.resize-2.ensures.items) in
    let sizes = resized_is (at + c.args.size) more (vec_len f.sizes) f.sizes.items c.resize-3.new.self.items (omega (arith, count, even.1)) (omega (arith, f.sizes.ok.0)) (rw c.unwrap-3.ensures at c.resize-3.ensures.items) in
    let room = c.self.invariant.room in
    let room' : (f.limit ≤ vec_capacity c.resize.new.self) × (f.limit ≤ vec_capacity c.resize-2.new.self) × (f.limit ≤ vec_capacity c.resize-3.new.self) =
    (omega (arith, room.0, c.resize.ensures.capacity), omega (arith, room.1, c.resize-2.ensures.capacity), omega (arith, room.2, c.resize-3.ensures.capacity)) in
    let c' : Inside = record {
      bytes = c.resize.new.self;
      marks = c.resize-2.new.self;
      sizes = with_item c.resize-3.new.self at c.args.size;
      blocks = f.blocks + 1;
      next = at + c.args.size;
      limit = f.limit;
    } in
    place_kept f c' c.self.invariant c.args.size c.args.align at c.requires.size.0 c.requires.align refl c.if-at-size.false more count bytes marks (ap (λ xs. set xs at c.args.size) sizes) room' refl refl refl

pub returns-clause-value : goal.returns-clause-value
returns-clause-value c =
    let f = c.self.inside in
    let at = least_multiple f.next c.args.align in
    let more = at + c.args.size - length f.bytes.items in
    let count : length f.bytes.items + more ≡ at + c.args.size = omega (arith, below_place f c.self.invariant c.args.align at c.requires.align refl) in
    let even = c.self.invariant.even in
    let bytes = resized_is (at + c.args.size) more (vec_len f.bytes) f.bytes.items c.resize.new.self.items count (omega (arith, f.bytes.ok.0)) (rw c.unwrap.ensures at c.resize.ensures.items) in
    let marks = resized_is (at + c.args.size) more (vec_len f.marks) f.marks.items c.resize-2.new.self.items (omega (arith, count, even.0)) (omega (arith, f.marks.ok.0)) (rw c.unwrap-2.ensures at c.resize-2.ensures.items) in
    let sizes = resized_is (at + c.args.size) more (vec_len f.sizes) f.sizes.items c.resize-3.new.self.items (omega (arith, count, even.1)) (omega (arith, f.sizes.ok.0)) (rw c.unwrap-3.ensures at c.resize-3.ensures.items) in
    let room = c.self.invariant.room in
    let room' : (f.limit ≤ vec_capacity c.resize.new.self) × (f.limit ≤ vec_capacity c.resize-2.new.self) × (f.limit ≤ vec_capacity c.resize-3.new.self) =
    (omega (arith, room.0, c.resize.ensures.capacity), omega (arith, room.1, c.resize-2.ensures.capacity), omega (arith, room.2, c.resize-3.ensures.capacity)) in
    let c' : Inside = record {
      bytes = c.resize.new.self;
      marks = c.resize-2.new.self;
      sizes = with_item c.resize-3.new.self at c.args.size;
      blocks = f.blocks + 1;
      next = at + c.args.size;
      limit = f.limit;
    } in
    rw (← c.self.view_is) (place_is f c' c.self.invariant c.args.size c.args.align at c.requires.size.0 c.requires.align refl c.if-at-size.false more count bytes marks (ap (λ xs. set xs at c.args.size) sizes) room' refl refl refl)

pub returns-clause-good : goal.returns-clause-good
returns-clause-good c =
    let f = c.self.inside in
    let at = least_multiple f.next c.args.align in
    let more = at + c.args.size - length f.bytes.items in
    let count : length f.bytes.items + more ≡ at + c.args.size = omega (arith, below_place f c.self.invariant c.args.align at c.requires.align refl) in
    let even = c.self.invariant.even in
    let bytes = resized_is (at + c.args.size) more (vec_len f.bytes) f.bytes.items c.resize.new.self.items count (omega (arith, f.bytes.ok.0)) (rw c.unwrap.ensures at c.resize.ensures.items) in
    let marks = resized_is (at + c.args.size) more (vec_len f.marks) f.marks.items c.resize-2.new.self.items (omega (arith, count, even.0)) (omega (arith, f.marks.ok.0)) (rw c.unwrap-2.ensures at c.resize-2.ensures.items) in
    let sizes = resized_is (at + c.args.size) more (vec_len f.sizes) f.sizes.items c.resize-3.new.self.items (omega (arith, count, even.1)) (omega (arith, f.sizes.ok.0)) (rw c.unwrap-3.ensures at c.resize-3.ensures.items) in
    let room = c.self.invariant.room in
    let room' : (f.limit ≤ vec_capacity c.resize.new.self) × (f.limit ≤ vec_capacity c.resize-2.new.self) × (f.limit ≤ vec_capacity c.resize-3.new.self) =
    (omega (arith, room.0, c.resize.ensures.capacity), omega (arith, room.1, c.resize-2.ensures.capacity), omega (arith, room.2, c.resize-3.ensures.capacity)) in
    let c' : Inside = record {
      bytes = c.resize.new.self;
      marks = c.resize-2.new.self;
      sizes = with_item c.resize-3.new.self at c.args.size;
      blocks = f.blocks + 1;
      next = at + c.args.size;
      limit = f.limit;
    } in
    (place_kept f c' c.self.invariant c.args.size c.args.align at c.requires.size.0 c.requires.align refl c.if-at-size.false more count bytes marks (ap (λ xs. set xs at c.args.size) sizes) room' refl refl refl).good
