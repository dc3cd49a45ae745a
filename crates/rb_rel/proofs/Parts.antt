-- The parts at locations: what is read there is what the part holds.
use Rattle.std.proofs.Common.{◌≡◌, ℕ, ◌+◌, ◌/◌, ◌≤◌, List, Bool, Some, subst, ap, ◌∙◌}
use Rattle.std.specs.Prelude.{slice_get, slice_index}
use Rattle.rb_core.specs.declared.layout_decl.Loc.{Loc}
use Rattle.rb_bits.specs.Words.{take_of}
use Rattle.rb_bytes.specs.Memory.{Memory}
use Rattle.rb_layout.specs.declared.layout.Leaf.{Leaf}
use Rattle.rb_layout.specs.declared.layout.FlatWord.{FlatWord}
use Rattle.rb_layout.specs.declared.layout.Part.{Part}
use Rattle.rb_layout.specs.declared.layout.Kind.{Kind}
use Rattle.rb_layout.specs.declared.layout.Kind.TheVariants.{Word}
use Rattle.rb_layout.specs.declared.layout.WordRef.{WordRef}
use Rattle.rb_layout.specs.Words.{words_in, flat_at}
use Rattle.rb_rel.specs.Relation.{HoldsKind, LeafStands}
use Rattle.rb_rel.specs.Reading.{LeadsTo, read_loc}
use Rattle.rb_rel.proofs.Reading.{reads_loc}

-- two parts of a word begin apart, each has bits and lies in its word, and each block word has a byte
pub record IsTidyLeaf (leaf : Leaf) : Type 0 where
  pub apart : (r : WordRef) (f : FlatWord) (i j : ℕ) (p q : Part) → flat_at leaf r ≡ Some f → slice_get f.parts i ≡ Some p → slice_get f.parts j ≡ Some q → p.o ≡ q.o → p ≡ q
  pub within : (r : WordRef) (f : FlatWord) (i : ℕ) (p : Part) → flat_at leaf r ≡ Some f → slice_get f.parts i ≡ Some p → (1 ≤ p.l) × (p.o + p.l ≤ f.width)
  pub bytes : (b j : ℕ) (f : FlatWord) → slice_get (words_in leaf (Some b)) j ≡ Some f → 1 ≤ f.width / 8

module _ (leaf : Leaf) (ws : List ℕ) (m : Memory) (clean : Bool) (subs : List ℕ → List ℕ) (ats : ℕ → ℕ) (placed : LeafStands leaf ws m clean subs ats) where
  -- what is read at a location that leads to a part is what the part holds
  pub part_read : (loc : Loc) (l : ℕ) (kind : Kind) → LeadsTo leaf loc l kind → (n : ℕ) × (read_loc ws m loc ≡ Some n) × HoldsKind subs ats n l kind
  part_read loc l kind at =
      let r = reads_loc leaf ws m clean subs ats placed loc at.reached at.resolves in
      let w = r.found in
      let holds = r.stands.holds.parts at.number at.part at.is_part in
      let n = take_of w at.reached.o at.reached.l in
      let is : take_of w at.part.o at.part.l ≡ n = ap (λ o. take_of w o at.part.l) at.first ∙ ap (take_of w at.reached.o) at.long in
      (n, r.is_read, subst (λ (k : Kind). HoldsKind subs ats n l k) at.is_kind (subst (λ b. HoldsKind subs ats n b at.part.kind) at.bits (subst (λ x. HoldsKind subs ats x at.part.l at.part.kind) is holds)))

  pub word_read : (path : List ℕ) (j l : ℕ) (loc : Loc) → LeadsTo leaf loc l (Word path j) → read_loc ws m loc ≡ Some (slice_index (subs path) j)
  word_read path j l loc at = let r = part_read loc l (Word path j) at in r.1 ∙ ap Some r.2
