-- Laying one thing after another.
use Rattle.std.proofs.Common.{◌≡◌, ℕ, ◌+◌, List, [], ◌∷◌, ◌++◌, map, length, sym, ap, ◌∙◌, arith}
use Rattle.std.specs.Prelude.{Option, Some, slice_get, drop, suc}
use Rattle.std.proofs.lemmas.List.{append_assoc, length-append}
use Rattle.rb_core.specs.declared.layout_decl.LayItem.{LayItem}
use Rattle.rb_core.specs.declared.layout_decl.PartKind.{PartKind}
use Rattle.rb_core.specs.declared.layout_decl.PartKind as K
use Rattle.rb_core.specs.declared.layout_decl.LayoutDecl.{LayoutDecl}
use Rattle.rb_layout.specs.declared.layout.Block.{Block}
use Rattle.rb_layout.specs.declared.layout.FlatWord.{FlatWord}
use Rattle.rb_layout.specs.declared.layout.Part.{Part}
use Rattle.rb_layout.specs.declared.layout.Kind.{Kind}
use Rattle.rb_layout.specs.declared.layout.Kind.TheVariants.{Pointer}
use Rattle.rb_layout.specs.Positions.{Open}
use Rattle.rb_layout.specs.Flattening.{WithBlocks, Laying, in_turn, items_laid, kind_laid, item_step, kind_step, part_step, pointer_to_block}
use Rattle.rb_layout.specs.inner.Laying.{behind, Lays, LaysKind}
use Rattle.rb_layout.proofs.WrittenForms.{fold-Pointer}
use Rattle.rb_layout.proofs.Walks.{drop_from}

laid_step : {A : Type 0} (xs : List A) (old : List Block) (first : WithBlocks (List A)) (lays : List (Laying (List A)))
    → ◌≡◌ {A = WithBlocks (List A)} (behind (xs ++ first.it) (old ++ first.blocks) (in_turn lays (length (old ++ first.blocks))))
    (record { it = xs ++ (first.it ++ (in_turn lays (length old + length first.blocks)).it); blocks = old ++ (first.blocks ++ (in_turn lays (length old + length first.blocks)).blocks) })
laid_step {A} xs old first lays =
    let rest = in_turn lays (length old + length first.blocks) in
    ap (λ n. behind (xs ++ first.it) (old ++ first.blocks) (in_turn lays n)) (length-append old first.blocks)
    ∙ ap (λ (ws : List A). record { it = ws; blocks = (old ++ first.blocks) ++ rest.blocks }) (append_assoc xs first.it rest.it)
    ∙ ap (λ (bs : List Block). record { it = xs ++ (first.it ++ rest.it); blocks = bs }) (append_assoc old first.blocks rest.blocks)

-- the first is laid, and the rest behind it
pub laid_next : {A : Type 0} (xs ys : List A) (old new : List Block) (lay : Laying (List A)) (lays : List (Laying (List A))) → Lays xs ys old new lay
    → ◌≡◌ {A = WithBlocks (List A)} (behind ys new (in_turn lays (length new))) (behind xs old (in_turn (lay ∷ lays) (length old)))
laid_next {A} xs ys old new lay lays h =
    ap (λ (l : WithBlocks (List A)). behind l.it l.blocks (in_turn lays (length l.blocks))) h ∙ laid_step xs old (lay (length old)) lays

pub one_more : (i : ℕ) → i + 1 ≡ suc i
one_more i = omega arith

-- one of the items is laid, and the others behind it
pub laid_on : {A X : Type 0} (lay : X → Laying (List A)) (all : List X) (i : ℕ) (x : X) (whole : WithBlocks (List A)) (xs ys : List A) (old new : List Block)
    → slice_get all i ≡ Some x → Lays xs ys old new (lay x) → behind xs old (in_turn (map lay (drop i all)) (length old)) ≡ whole
    → behind ys new (in_turn (map lay (drop (i + 1) all)) (length new)) ≡ whole
laid_on lay all i x whole xs ys old new is h invariant =
    ap (λ k. behind ys new (in_turn (map lay (drop k all)) (length new))) (one_more i)
    ∙ laid_next xs ys old new (lay x) (map lay (drop (suc i) all)) h
    ∙ ap (λ q. behind xs old (in_turn (map lay q) (length old))) (sym (drop_from all i x is)) ∙ invariant

module _ (decls : List LayoutDecl) (opens : List Open) where
  -- a pointer's block stands behind those inside it
  pub pointed_laid : (kind : PartKind) (align : ℕ) (items : List LayItem) (words : List FlatWord) (old mid new : List Block) (number : ℕ) → kind ≡ K.Pointer align items
      → Lays [] words old mid (items_laid decls opens items) → number ≡ length mid → new ≡ mid ++ record { align = align; words = words } ∷ []
      → LaysKind (Some (Pointer align number)) old new (kind_laid decls opens kind)
  pointed_laid kind align items words old mid new number is h is_number is_new =
      let laid = items_laid decls opens items (length old) in
      let is_mid : mid ≡ old ++ laid.blocks = ap (λ (l : WithBlocks (List FlatWord)). l.blocks) h in
      let is_words : words ≡ laid.it = ap (λ (l : WithBlocks (List FlatWord)). l.it) h in
      let is_kind : kind_laid decls opens kind (length old) ≡ pointer_to_block align (length old) laid =
      ap (λ (k : PartKind). kind_laid decls opens k (length old)) is
      ∙ ap (λ (lay : Laying (Option Kind)). lay (length old)) (fold-Pointer (Laying (List FlatWord)) (Laying (Option Kind)) (Laying (List Part)) (item_step decls opens) (kind_step opens) part_step align items) in
      let count : number ≡ length old + length laid.blocks = is_number ∙ ap (λ (bs : List Block). length bs) is_mid ∙ length-append old laid.blocks in (
        ap (λ n. Some (Pointer align n)) count ∙ sym (ap (λ (l : WithBlocks (Option Kind)). l.it) is_kind),
        is_new ∙ ap (λ (bs : List Block). bs ++ record { align = align; words = words } ∷ []) is_mid ∙ append_assoc old laid.blocks (record { align = align; words = words } ∷ [])
            ∙ ap (λ (ws : List FlatWord). old ++ (laid.blocks ++ record { align = align; words = ws } ∷ [])) is_words
            ∙ sym (ap (λ (l : WithBlocks (Option Kind)). old ++ l.blocks) is_kind),
      )
