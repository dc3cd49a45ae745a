-- The parts of a leaf, as ranges of reads.
use Rattle.std.proofs.Common.{Bool, ◌^◌, ◌≡◌, ℕ, ◌+◌, ◌<◌, ◌≤◌, ◌==◌, ◌&&◌, List, [], ◌∷◌, true, Option, Some, None, refl, sym, subst, ap, ◌∙◌, arith}
use Rattle.std.specs.Prelude.{slice_get, slice_index, leb, ltb}
use Rattle.std.proofs.lemmas.Bool.{and_parts}
use Rattle.std.proofs.lemmas.Grind.{common_steps}
use Rattle.std.proofs.lemmas.Option.{same_Some}
use Rattle.rb_bytes.specs.Memory.{Memory}
use Rattle.rb_core.specs.declared.types.Ty.{Ty}
use Rattle.rb_core.specs.declared.types.Ty.TheVariants.{Int, Named}
use Rattle.rb_core.specs.declared.layout_decl.Loc.{Loc}
use Rattle.rb_core.specs.declared.layout_decl.Step.{Step}
use Rattle.rb_layout.specs.declared.layout.Leaf.{Leaf}
use Rattle.rb_layout.specs.declared.layout.FlatWord.{FlatWord}
use Rattle.rb_layout.specs.declared.layout.Part.{Part}
use Rattle.rb_layout.specs.declared.layout.Kind.{Kind}
use Rattle.rb_layout.specs.declared.layout.Kind.TheVariants.{Const, Bits, Word, Pointer}
use Rattle.rb_layout.specs.declared.layout.WordRef.{WordRef}
use Rattle.rb_layout.specs.A6.{holds_unit}
use Rattle.rb_layout.specs.Flattening.{same_path}
use Rattle.rb_layout.specs.Locations.{Reached, range_in, next_ref, pointer_block, resolve_from}
use Rattle.rb_layout.specs.Words.{flat_at}
use Rattle.rb_rel.specs.Reading.{LeadsTo}
use Rattle.rb_rel.specs.Relation.{HoldsKind, LeafStands}
use Rattle.rb_rel.proofs.Holding.{path_is}
use Rattle.rb_rel.proofs.Known.{ltb_is}
use Rattle.rb_rel.proofs.Lawful.{HoldsUnit, Holder}
use Rattle.rb_rel.proofs.Lists.{and_true}
use Rattle.rb_rel.proofs.Parts.{part_read}
use Rattle.rb_rel.proofs.Reading.{chosen, same_nat, leb_is}
use Rattle.rb_fragment.specs.declared.reads.Read.{Read, Slot}
use Rattle.rb_fragment.specs.WordReads.{IsSlotOf}
use Rattle.rb_fragment.proofs.MakingAll.{slot-of}
use Rattle.rb_fetch.specs.declared.span.Span.{Span}
use Rattle.rb_fetch.specs.declared.place.Wanted.TheVariants.{UnitOf}
use Rattle.rb_fetch.specs.inner.Reads.{FitsWidth, ReadsRange, SpansLoc, step_span, span_on, read_or}
use Rattle.rb_fetch.specs.inner.Placing.{IsAgreedLeaf, is_wanted, NoSpot, width_of}
use Rattle.rb_fetch.specs.inner.Fields.{SpansPart, ReadsPart, ReadsAs}
use Rattle.rb_fetch.proofs.Fitting.{readable_leaf, resolved_fits}
use Rattle.rb_fetch.proofs.Locations.{loc_fits, loc_range, loc_means}

-- the range is as long as the one to which the location resolves
span_end : (leaf : Leaf) (steps : List Step) (p : Span) (r : Option WordRef) (o : ℕ) (x : Reached) → resolve_from leaf r o p.l steps ≡ Some x → (span_on p steps).l ≡ x.l
span_end leaf steps p None o x e = absurd cc
span_end leaf [] p (Some r) o x e = go (flat_at leaf r) e
  where
    go : (y : Option FlatWord) → range_in y r o p.l ≡ Some x → p.l ≡ x.l
    go None h = absurd cc
    go (Some f) h = ap (λ (y : Reached). y.l) (chosen (leb 1 p.l && leb (o + p.l) f.width) (record { ref = r; word = f; o = o; l = p.l }) x h).1
span_end leaf (t ∷ steps) p (Some r) o x e =
    span_end leaf steps (step_span p t)
    (next_ref leaf (pointer_block (flat_at leaf r) o p.l t.align) t) t.o x e

-- where the range's word stands in a slot, no step leads to it
span_slot : (steps : List Step) (p : Span) (width x : ℕ) → (span_on p steps).width ≡ Some width → (span_on p steps).read ≡ Slot x → (p.width ≡ Some width) × (p.read ≡ Slot x)
span_slot [] p width x some is = (some, is)
span_slot (t ∷ steps) p width x some is =
    let r = span_slot steps (step_span p t) width x some is in
    absurd (let z = r.1 in cc)

-- a root word is of its width
root_small : (leaf : Leaf) (ws : List ℕ) (m : Memory) (clean : Bool) (subs : List ℕ → List ℕ) (ats : ℕ → ℕ) → LeafStands leaf ws m clean subs ats
    → (j : ℕ) (o : Option FlatWord) → slice_get leaf.root j ≡ o → (w : ℕ) → slice_get ws j ≡ Some w → FitsWidth (width_of o) w
root_small leaf ws m clean subs ats placed j None is w e = tt
root_small leaf ws m clean subs ats placed j (Some f) is w e =
    let x = placed.words (record { block = None; word = j }) f is in
    let same : x.0 ≡ w = same_Some x.0 w (sym x.1 ∙ e) in
    subst (λ k. k < 2 ^ f.width) same x.2.fits

or_slot : (words : List Read) (o : Option Read) (k y : ℕ) → slice_get words k ≡ o → read_or o ≡ Slot y → IsSlotOf y words
or_slot words None k y is e = absurd cc
or_slot words (Some r) k y is e = slot-of words k y (is ∙ ap Some e)

-- where a location leads to a part, its range has the part's bits
pub spans_part : (leaf : Leaf) → IsAgreedLeaf leaf → (words : List Read) (loc : Loc) (l : ℕ) (kind : Kind) → LeadsTo leaf loc l kind
    → (span : Span) → SpansLoc words (width_of (slice_get leaf.root loc.word)) loc span → SpansPart leaf words span l kind
spans_part leaf ok words loc l kind at span is =
    let f = resolved_fits leaf (readable_leaf ok.program ok.typed ok.agrees ok.ty ok.layout ok.number leaf ok.is_layout ok.is_leaf) loc at.reached at.resolves in
    let width = width_of (slice_get leaf.root loc.word) in
    let first = is.first in
    let root : Option WordRef = Some (record { block = None; word = loc.word }) in
    let resolves : resolve_from leaf root loc.o first.l loc.steps ≡ Some at.reached = ap (λ k. resolve_from leaf root loc.o k loc.steps) is.begins.long ∙ at.resolves in
    record {
      long = ap (λ (q : Span). q.l) is.ends ∙ span_end leaf loc.steps first root loc.o at.reached resolves ∙ sym at.long ∙ at.bits;
      range = loc_range words width loc span is f.0;
      fit = λ k all n. loc_fits words width loc span is f.0 k all (omega (arith, f.1, n));
      means = λ ws s m clean subs ats good meant placed.
          let r = part_read leaf ws m clean subs ats placed loc l kind at in
          (r.0, loc_means s m good r.0 words ws width loc span is f.0 meant (λ w e. root_small leaf ws m clean subs ats placed loc.word (slice_get leaf.root loc.word) refl w e) r.1, r.2);
      origin = λ w x some here.
          let q = span_slot loc.steps first w x (sym (ap (λ (y : Span). y.width) is.ends) ∙ some) (sym (ap (λ (y : Span). y.read) is.ends) ∙ here) in
          or_slot words (slice_get words loc.word) loc.word x refl (is.begins.origin w x q.0 q.1);
    }

-- Units

same_is : (a : ℕ) → (a == a) ≡ true
same_is a = grind (arith, common_steps)

path_same : (p : List ℕ) → same_path p p ≡ true
path_same [] = refl
path_same (i ∷ p) = and_true (i == i) (same_path p p) (same_is i) (path_same p)

leb_yes : (a b : ℕ) → a ≤ b → leb a b ≡ true
leb_yes a b le = grind (arith, common_steps)

ltb_yes : (a b : ℕ) → a < b → ltb a b ≡ true
ltb_yes a b lt = grind (arith, common_steps)

holds : (ty : Ty) (path : List ℕ) (i : ℕ) (p : Part) → HoldsUnit ty path i p → holds_unit ty path i p.l p.kind ≡ true
holds (Int bits) path i p h =
    ap (λ k. holds_unit (Int bits) path i p.l k) h.1
    ∙ and_true (same_path path path) (leb h.0 i && ltb i (h.0 + p.l)) (path_same path) (and_true (leb h.0 i) (ltb i (h.0 + p.l)) (leb_yes h.0 i h.2) (ltb_yes i (h.0 + p.l) h.3))
holds (Named s) path i p h = ap (λ k. holds_unit (Named s) path i p.l k) h ∙ and_true (same_path path path) (i == i) (path_same path) (same_is i)

-- a unit that is held is found
pub unit_there : (leaf : Leaf) (ty : Ty) (path : List ℕ) (i : ℕ) → Holder leaf ty path i → NoSpot leaf path (UnitOf ty i) → ⊥
unit_there leaf ty path i h none = none h.ref.block h.ref.word h.word h.is_word h.number h.part h.is_part (holds ty path i h.part h.is_holder)

word_kind : (s i l : ℕ) (path : List ℕ) (k : Kind) → holds_unit (Named s) path i l k ≡ true → k ≡ Word path i
word_kind s i l path (Word p j) e =
    let b = and_parts (same_path p path) (j == i) e in ap (λ q. Word q j) (path_is p path b.0) ∙ ap (Word path) (same_nat j i b.1)
word_kind s i l path (Const c) e = absurd cc
word_kind s i l path (Bits p a) e = absurd cc
word_kind s i l path (Pointer align b) e = absurd cc

-- the part that has word i of a field
pub word_part : (s i : ℕ) (path : List ℕ) (p : Part) → is_wanted path (UnitOf (Named s) i) p ≡ true → p.kind ≡ Word path i
word_part s i path p e = word_kind s i p.l path p.kind e

bit_kind : (width i l : ℕ) (path : List ℕ) (k : Kind) → holds_unit (Int width) path i l k ≡ true → (a : ℕ) × (k ≡ Bits path a) × (a ≤ i) × (i < a + l)
bit_kind width i l path (Bits p a) e =
    let b = and_parts (same_path p path) (leb a i && ltb i (a + l)) e in let c = and_parts (leb a i) (ltb i (a + l)) b.1 in
    (a, ap (λ q. Bits q a) (path_is p path b.0), leb_is a i c.0, ltb_is i (a + l) c.1)
bit_kind width i l path (Const c) e = absurd cc
bit_kind width i l path (Word p j) e = absurd cc
bit_kind width i l path (Pointer align b) e = absurd cc

-- the part that has bit i of a field
pub bit_part : (width i : ℕ) (path : List ℕ) (p : Part) → is_wanted path (UnitOf (Int width) i) p ≡ true → (a : ℕ) × (p.kind ≡ Bits path a) × (a ≤ i) × (i < a + p.l)
bit_part width i path p e = bit_kind width i p.l path p.kind e

-- a read of the range means what the part holds
pub range_reads : (leaf : Leaf) (words : List Read) (span : Span) (l : ℕ) (kind : Kind) → SpansPart leaf words span l kind → (read : Read) → ReadsRange span read → ReadsPart leaf words read l kind
range_reads leaf words span l kind sp read reads = record {
  fit = λ k all n. reads.fit k (sp.fit k all n) sp.range;
  origin = λ x e. let o = reads.origin x e in sp.origin o.0 x o.1 o.2;
  means = λ ws s m clean subs ats good meant placed.
      let q = sp.means ws s m clean subs ats good meant placed in (q.0, reads.means s m q.0 sp.range q.1, q.2);
}

-- a part that says a number of the words at open positions
pub part_reads : (leaf : Leaf) (words : List Read) (read : Read) (l : ℕ) (kind : Kind) → ReadsPart leaf words read l kind → (number : (List ℕ → List ℕ) → ℕ)
    → ((subs : List ℕ → List ℕ) (ats : ℕ → ℕ) (n : ℕ) → HoldsKind subs ats n l kind → n ≡ number subs) → ReadsAs leaf words read number
part_reads leaf words read l kind rp number same = record {
  fit = rp.fit;
  origin = rp.origin;
  means = λ ws s m clean subs ats good meant placed.
      let q = rp.means ws s m clean subs ats good meant placed in q.1 ∙ ap Some (same subs ats q.0 q.2);
}

pub word_reads : (leaf : Leaf) (words : List Read) (read : Read) (s j : ℕ) (path : List ℕ) (p : Part) → is_wanted path (UnitOf (Named s) j) p ≡ true → ReadsPart leaf words read p.l p.kind
    → ReadsAs leaf words read (λ subs. slice_index (subs path) j)
word_reads leaf words read s j path p wanted rp =
    part_reads leaf words read p.l p.kind rp (λ subs. slice_index (subs path) j)
    (λ subs ats n h. subst (λ k. HoldsKind subs ats n p.l k) (word_part s j path p wanted) h)
