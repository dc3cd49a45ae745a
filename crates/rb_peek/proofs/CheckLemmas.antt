-- Words that are checked, and subvalues, one more at a time.
use Rattle.std.proofs.Common.{◌≡◌, ℕ, ◌+◌, ◌≤◌, ◌&&◌, Bool, true, false, List, [], ◌∷◌, ◌++◌, drop, length, map, Option, Some, None, Result, Ok, Err, sym, subst, ap, ◌∙◌, append_assoc, append-nil}
use Rattle.std.specs.Prelude.{slice_get, IfErr, IsErr, if◌then◌else◌}
use Rattle.std.specs.Result.{IsErrAnd}
use Rattle.std.proofs.lemmas.Bool.{false≢true}
use Rattle.std.specs.List.{flat_map}
use Rattle.rb_layout.specs.declared.layout.FlatTree.TheVariants as T
use Rattle.rb_layout.specs.declared.layout.Layout.{Layout}
use Rattle.rb_layout.specs.Positions.{layout_of}
use Rattle.rb_image_text.specs.declared.fault.ImageFault.{ImageFault}
use Rattle.rb_image_text.specs.declared.image.ImageBlock.{ImageBlock}
use Rattle.rb_image.specs.declared.kept.Kept.{Kept}
use Rattle.rb_image.proofs.DropLemmas.{drop_item, drop_past}
use Rattle.rb_peek.specs.declared.walk.Passed.{Passed}
use Rattle.rb_peek.specs.Asked.{asked_by}
use Rattle.rb_peek.specs.Walks.{Waypoint, layout_at, layout_or_none, seen_of}
use Rattle.rb_peek.specs.inner.Checking.{stand_of, words_seen}
use Rattle.rb_peek.specs.Paths.{words_asked}
use Rattle.rb_peek.proofs.AskedLemmas.{leaf_asks}

-- One part -----------------------------------------------------------------------------------
pub fault_skipped : (there here : Bool) (o : Option ImageFault) → there ≡ true → here ≡ false → None ≡ (if there && here then o else None)
fault_skipped there here o t h = sym (ap (λ (b : Bool). if b && here then o else None) t ∙ ap (λ (b : Bool). if b then o else None) h)

pub fault_taken : (there here : Bool) (o : Option ImageFault) → there ≡ true → here ≡ true → o ≡ (if there && here then o else None)
fault_taken there here o t h = sym (ap (λ (b : Bool). if b && here then o else None) t ∙ ap (λ (b : Bool). if b then o else None) h)

-- Splits -------------------------------------------------------------------------------------
module _ (layouts : List Layout) (m : List ImageBlock) (s : Waypoint) where
  -- a type without a layout has none
  pub none_asked : (found : List Kept) → layout_of layouts s.ty ≡ None → found ≡ found ++ words_asked layouts m (stand_of s)
  none_asked found none =
      let is : (layout_at layouts s.ty).tree ≡ T.Leaf 0 = ap (λ o. (layout_or_none o).tree) none in
      sym (ap (λ ks. found ++ ks) (leaf_asks (layout_at layouts s.ty).tree 0 m s.words is) ∙ append-nil found)

  pub some_asked : (layout : Layout) → layout_of layouts s.ty ≡ Some layout → asked_by layout.tree m s.words ≡ words_asked layouts m (stand_of s)
  some_asked layout some = ap (λ o. asked_by (layout_or_none o).tree m s.words) (sym some)

-- Subvalues ----------------------------------------------------------------------------------
module _ (layouts : List Layout) (m : List ImageBlock) (items : List Passed) (last : Waypoint) where
  abbrev words : List Waypoint → List Kept
  words = flat_map (words_seen layouts m)

  abbrev left : ℕ → List Waypoint
  left k = map seen_of (drop k items) ++ last ∷ []

  -- one subvalue more
  pub words_next : (k : ℕ) (x : Passed) → slice_get items k ≡ Some x → (old new : List Kept) → new ≡ old ++ words_seen layouts m (seen_of x) → old ++ words (left k) ≡ new ++ words (left (k + 1))
  words_next k x is old new added =
      ap (λ xs. old ++ words (map seen_of xs ++ last ∷ [])) (drop_item items k x is)
      ∙ sym (append_assoc old (words_seen layouts m (seen_of x)) (words (left (k + 1)))) ∙ ap (λ ks. ks ++ words (left (k + 1))) (sym added)

  -- the last one
  pub words_last : (k : ℕ) → length items ≤ k → (old new : List Kept) → new ≡ old ++ words_seen layouts m last → old ++ words (left k) ≡ new
  words_last k le old new added =
      ap (λ xs. old ++ words (map seen_of xs ++ last ∷ [])) (drop_past items k le) ∙ ap (λ ks. old ++ ks) (append-nil (words_seen layouts m last)) ∙ sym added

-- Results ------------------------------------------------------------------------------------
-- a fault that is handed on
pub if_err : {B : Type 0} (P : ImageFault → Type 0) (r : Result B ImageFault) (e : ImageFault) → IsErr r → IsErrAnd r (λ x. x ≡ e) → P e → IfErr r P
if_err P (Ok b) e is same h = absurd (false≢true is)
if_err P (Err x) e is same h = subst P (sym same) h
