-- No derived layout stands on a cycle of types that hold each other.
use Rattle.std.proofs.Common.{◌≡◌, ℕ, zero, suc, ◌+◌, List, [], ◌∷◌, ◌++◌, length, map, Option, Some, sym, ap, subst, ◌∙◌}
use Rattle.std.specs.Prelude.{slice_get}
use Rattle.std.proofs.lemmas.Option.{same_Some}
use Rattle.rb_core.specs.declared.types.Ty.TheVariants.{Named}
use Rattle.rb_core.specs.declared.program.Program.{Program}
use Rattle.rb_core.specs.declared.layout_decl.LayoutDecl.{LayoutDecl}
use Rattle.rb_core.specs.declared.layout_decl.PartKind.TheVariants as K
use Rattle.rb_layout.specs.declared.layout.Layout.{Layout}
use Rattle.rb_layout.specs.declared.layout.Leaf.{Leaf}
use Rattle.rb_layout.specs.declared.layout.FlatWord.{FlatWord}
use Rattle.rb_layout.specs.declared.layout.Part.{Part}
use Rattle.rb_layout.specs.declared.layout.Kind.{Kind}
use Rattle.rb_layout.specs.declared.layout.Kind.TheVariants.{Word}
use Rattle.rb_layout.specs.Positions.{Open, layout_of, open_positions}
use Rattle.rb_layout.specs.Flattening.{WithBlocks, in_turn, item_laid, part_laid, parts_of}
use Rattle.rb_layout.specs.Cycles.{IsChain}
use Rattle.rb_layout.specs.A10.{HoldsField}
use Rattle.rb_layout.proofs.FlatForms.{Each}
use Rattle.rb_layout.proofs.Computing.{part_at, const_at, pointer_at}
use Rattle.rb_layout.proofs.OpenPositions.{type-open}
use Rattle.rb_auto.specs.declared.field_words.FieldWord.{FieldWord}
use Rattle.rb_auto.specs.declared.form.Form.TheVariants.{Boxed}
use Rattle.rb_auto.specs.declared.room.Room.{Room}
use Rattle.rb_auto.specs.Fields.{HasField}
use Rattle.rb_auto.specs.FieldWords.{constructor_words}
use Rattle.rb_auto.specs.Items.{block_items, boxed_parts, part, pointer_parts}
use Rattle.rb_auto.specs.inner.Standing.{flat_derived}
use Rattle.rb_auto.specs.inner.HoldingRules.{OpensItsFields, BoxIsOnNoCycle, FiniteIsOnNoCycle, HoldWhatTheyReach}
use Rattle.rb_auto.proofs.Leaves.{leaf-is, opens_at, parts_at, root-is}
use Rattle.rb_auto.proofs.Opens.{open-field, opens-are}

pub opens-its-fields : OpensItsFields
opens-its-fields p decls rooms t form n leaf e path s at =
    let c = leaf-is p rooms t form decls n leaf e in
    let opens_is = ap (λ l. open_positions p.types l.prov) c.2 ∙ opens-are p.types t n c.0 c.1 in
    let o = type-open (open_positions p.types leaf.prov) path (Named s) at in
    let f = open-field c.0.fields o.0 o.1 (ap (λ (os : List Open). slice_get os o.0) (sym opens_is) ∙ o.2) in
    record { con_number = n; con = c.0; field = o.0; is_con = c.1; is_field = f.1 ∙ ap Some (sym (ap (λ (x : Open). x.ty) f.2) ∙ o.4) }

-- Boxed words ------------------------------------------------------------------------------------------

abbrev HoldsNone : Part → Type 0
HoldsNone q = (path : List ℕ) (j : ℕ) → q.kind ≡ Word path j → ⊥

each-get : (qs : List Part) (k : ℕ) (q : Part) → Each HoldsNone qs → slice_get qs k ≡ Some q → HoldsNone q
each-get [] k q h e = absurd cc
each-get (x ∷ qs) zero q h e = subst HoldsNone (same_Some x q e) h.0
each-get (x ∷ qs) (suc k) q h e = each-get qs k q h.1 e

each-append : (xs ys : List Part) → Each HoldsNone xs → Each HoldsNone ys → Each HoldsNone (xs ++ ys)
each-append [] ys h g = g
each-append (x ∷ xs) ys h g = (h.0, each-append xs ys h.1 g)

module _ (decls : List LayoutDecl) (opens : List Open) where
  tag-none : (k n : ℕ) → Each HoldsNone (part_laid decls opens (part 0 8 (K.Const k)) n).it
  tag-none k n =
      subst (λ (qs : List Part). Each HoldsNone qs)
      (sym (ap (λ (l : WithBlocks (List Part)). l.it) (part_at decls opens n (part 0 8 (K.Const k))) ∙ ap (λ (l : WithBlocks (Option Kind)). parts_of 0 8 l.it) (const_at decls opens n k)))
      ((λ path j e. cc), tt)

  pointer-none : (ws : List FieldWord) (n : ℕ) → Each HoldsNone (in_turn (map (part_laid decls opens) (pointer_parts ws)) n).it
  pointer-none [] n = tt
  pointer-none (w ∷ ws) n =
      let d = part 8 56 (K.Pointer 8 (block_items (w ∷ ws))) in
      let laid = in_turn (map (item_laid decls opens) (block_items (w ∷ ws))) n in
      each-append (part_laid decls opens d n).it []
      (subst (λ (qs : List Part). Each HoldsNone qs)
      (sym (ap (λ (l : WithBlocks (List Part)). l.it) (part_at decls opens n d)
      ∙ ap (λ (l : WithBlocks (Option Kind)). parts_of 8 56 l.it) (pointer_at decls opens n 8 (block_items (w ∷ ws)))))
      ((λ path j e. cc), tt)) tt

  box-none : (k : ℕ) (ws : List FieldWord) → Each HoldsNone (in_turn (map (part_laid decls opens) (boxed_parts k ws)) 0).it
  box-none k ws =
      let first = part_laid decls opens (part 0 8 (K.Const k)) 0 in
      each-append first.it (in_turn (map (part_laid decls opens) (pointer_parts ws)) (0 + length first.blocks)).it (tag-none k 0) (pointer-none ws (0 + length first.blocks))

one-word : (f : FlatWord) (k : ℕ) (g : FlatWord) → slice_get (f ∷ []) k ≡ Some g → f ≡ g
one-word f zero g e = same_Some f g e
one-word f (suc k) g e = absurd cc

module _ (p : Program) (decls : List LayoutDecl) (rooms : List Room) (t : ℕ) (layouts : List Layout) (is : layout_of layouts t ≡ Some (flat_derived p decls rooms t Boxed)) where
  holds-none : (s : ℕ) → HoldsField p.types layouts t s → ⊥
  holds-none s h =
      let same : flat_derived p decls rooms t Boxed ≡ h.layout = same_Some (flat_derived p decls rooms t Boxed) h.layout (sym is ∙ h.is_layout) in
      let c = leaf-is p rooms t Boxed decls h.leaf_number h.leaf (ap (λ (l : Layout). slice_get l.leaves h.leaf_number) same ∙ h.is_leaf) in
      let root = ap (λ (l : Leaf). l.root) c.2 ∙ root-is p rooms t Boxed decls h.leaf_number c.0 in
      let word = one-word _ h.word_number h.word (ap (λ (ws : List FlatWord). slice_get ws h.word_number) (sym root) ∙ h.is_word) in
      each-get (parts_at p rooms t Boxed decls h.leaf_number c.0).it h.part_number h.part (box-none decls (opens_at p rooms t Boxed decls h.leaf_number c.0) h.leaf_number (constructor_words p rooms c.0.fields))
      (ap (λ (f : FlatWord). slice_get f.parts h.part_number) word ∙ h.is_part) h.path h.index h.is_kind

pub box-is-on-no-cycle : BoxIsOnNoCycle
box-is-on-no-cycle p decls rooms t layouts is [] chain = holds-none p decls rooms t layouts is t chain
box-is-on-no-cycle p decls rooms t layouts is (n ∷ ts) chain = holds-none p decls rooms t layouts is n chain.0

-- Types that don't reach themselves ------------------------------------------------------------------------

pub chain-on : (R : ℕ → ℕ → Type 0) (a : ℕ) (ts : List ℕ) (b : ℕ) (us : List ℕ) (c : ℕ) → IsChain R a ts b → IsChain R b us c → IsChain R a (ts ++ b ∷ us) c
chain-on R a [] b us c h g = (h, g)
chain-on R a (t ∷ ts) b us c h g = (h.0, chain-on R t ts b us c h.1 g)

fields-lead : (p : Program) (layouts : List Layout) → HoldWhatTheyReach p layouts → (t : ℕ) (ts : List ℕ) (last : ℕ) → IsChain (HoldsField p.types layouts) t ts last
    → (us : List ℕ) × IsChain (HasField p.types) t us last
fields-lead p layouts reach t [] last h = reach t last h
fields-lead p layouts reach t (n ∷ ts) last h =
    let first = reach t n h.0 in
    let rest = fields-lead p layouts reach n ts last h.1 in
    (first.0 ++ n ∷ rest.0, chain-on (HasField p.types) t first.0 n rest.0 last first.1 rest.1)

pub finite-is-on-no-cycle : FiniteIsOnNoCycle
finite-is-on-no-cycle p layouts t reach finite ts chain = let us = fields-lead p layouts reach t ts t chain in finite us.0 us.1
