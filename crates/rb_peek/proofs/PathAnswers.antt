-- What following a path answers: where the walk ends and no fault is found, and where one is.
use Rattle.std.proofs.Common.{◌≡◌, ℕ, ◌&&◌, inl, inr, Bool, List, [], ◌∷◌, length, map, Option, Some, None, Ok, Err, refl, sym, subst, ap, ◌∙◌}
use Rattle.std.specs.Prelude.{if◌then◌else◌}
use Rattle.std.specs.Option.{option_or}
use Rattle.rb_core.specs.declared.types.DataDecl.{DataDecl}
use Rattle.rb_core.specs.declared.types.Ty.TheVariants.{Named}
use Rattle.rb_layout.specs.declared.layout.Layout.{Layout}
use Rattle.rb_layout.specs.declared.layout.Leaf.{Leaf}
use Rattle.rb_layout.specs.Positions.{layout_of}
use Rattle.rb_rel.specs.Relation.{shape_length, word_count}
use Rattle.rb_image_text.specs.declared.fault.ImageFault.{ImageFault}
use Rattle.rb_image_text.specs.declared.image.Image.{Image}
use Rattle.rb_image_text.specs.declared.image.ImageBlock.{ImageBlock}
use Rattle.rb_image_text.specs.Places.{AreInPlace}
use Rattle.rb_image.specs.declared.kept.Kept.{Kept}
use Rattle.rb_image.specs.declared.site.Site.{Site}
use Rattle.rb_image.specs.FieldSites.{AreRootSites, AreWords}
use Rattle.rb_image.specs.Given.{IsGiven}
use Rattle.rb_image.specs.LeafWords.{block_addresses}
use Rattle.rb_image.specs.Orders.{LocatedPart, order_of}
use Rattle.rb_image.specs.Parts.{bits_at}
use Rattle.rb_image.specs.Roots.{WordsFit, kept_from, layout_widths, widths_of}
use Rattle.rb_image.specs.Sites.{kept_of}
use Rattle.rb_image.proofs.RootValues.{fit_long}
use Rattle.rb_peek.specs.declared.path_words.WordAt.{WordAt}
use Rattle.rb_peek.specs.declared.walk.Walk.{Walk}
use Rattle.rb_peek.specs.Paths.{IsFaultless, IsPathFault, IsWalked, is_there, part_fault}
use Rattle.rb_peek.specs.Walks.{Waypoint, Where, end_of_path, where_of}
use Rattle.rb_peek.specs.inner.Checking.{IsFoundOn, all_seen, fault_among, fault_at, fault_of_seen, fault_on_path, fault_seen, has_word, is_kept_at, words_of_path}
use Rattle.rb_peek.proofs.PathSubvalues.{walk_stops}
use Rattle.rb_peek.proofs.PathWalks.{Walks}
use Rattle.rb_peek.proofs.PathWords.{found_fault, no_fault}
use Rattle.rb_peek.proofs.WellLeaves.{AreWell}

-- The same words -----------------------------------------------------------------------------
module _ (on off : ℕ → ℕ → Bool) (same : (base place : ℕ) → on base place ≡ off base place) (m : List ImageBlock) where
  at_same : (leaf : Leaf) (ws : List Kept) (ats : List ℕ) (s : LocatedPart) → fault_at on m leaf ws ats s ≡ fault_at off m leaf ws ats s
  at_same leaf ws ats s =
      let bits = bits_at m ws ats s in
      ap (λ (b : Bool). if is_there ats s.block && b then part_fault m leaf bits s.part.kind else None) (same bits.base bits.place)

  among_same : (leaf : Leaf) (ws : List Kept) (ats : List ℕ) (ss : List LocatedPart) → fault_among on m leaf ws ats ss ≡ fault_among off m leaf ws ats ss
  among_same leaf ws ats [] = refl
  among_same leaf ws ats (s ∷ ss) =
      ap (λ f. option_or f (fault_among on m leaf ws ats ss)) (at_same leaf ws ats s) ∙ ap (option_or (fault_at off m leaf ws ats s)) (among_same leaf ws ats ss)

  seen_same : (ss : List Waypoint) → fault_of_seen on m ss ≡ fault_of_seen off m ss
  seen_same [] = refl
  seen_same (s ∷ ss) =
      ap (λ f. option_or f (fault_of_seen on m ss)) (among_same s.leaf s.words (block_addresses m s.leaf s.words) (order_of s.leaf)) ∙ ap (option_or (fault_seen off m s)) (seen_same ss)

-- Answers ------------------------------------------------------------------------------------
shape_long : (o : Option Layout) → length (layout_widths o) ≡ shape_length o
shape_long None = refl
shape_long (Some layout) = refl

-- words that fit a data type are as many as it has
pub root_long : (layouts : List Layout) (t : ℕ) (words : List ℕ) → WordsFit (widths_of layouts (Named t)) words → length words ≡ word_count layouts (Named t)
root_long layouts t words fit = fit_long (widths_of layouts (Named t)) words fit ∙ shape_long (layout_of layouts t)

-- the root words stand at their sites
pub root_stands : (layouts ls : List Layout) (t count : ℕ) (image : Image) (words : List ℕ) (sites : List Site) → WordsFit (widths_of layouts (Named t)) image.root
    → count ≡ word_count ls (Named t) → ls ≡ layouts → words ≡ image.root → AreWords words → AreRootSites count sites → map (kept_of image) sites ≡ kept_from 0 image.root
root_stands layouts ls t count image words sites fit counted same are few stand =
    stand image (root_long layouts t image.root fit ∙ sym (counted ∙ ap (λ xs. word_count xs (Named t)) same)) (subst AreWords are few)

walk_given : (due : Walks) (w : Walk) → IsGiven where_of due (Ok w) → ◌≡◌ {A = Walks} due (Ok (where_of w))
walk_given (Ok v) w given = ap (λ (x : Where). Ok x) (sym given)
walk_given (Err fault) w given = absurd given

-- the fault in words that were found is the one in words on the path
pub same_faults : (layouts : List Layout) (image : Image) (seen : List Waypoint) (found : List WordAt) → IsFoundOn layouts image seen found
    → fault_of_seen (has_word found) image.blocks seen ≡ fault_on_path layouts image seen
same_faults layouts image seen found here = seen_same (has_word found) (is_kept_at (words_of_path layouts image seen)) here image.blocks seen

module _ (types : List DataDecl) (layouts : List Layout) (image : Image) (t : ℕ) (path : List ℕ) where
  abbrev due : Walks
  due = end_of_path types layouts image.blocks t (kept_from 0 image.root) path

  -- the walk stopped
  pub stopped : AreInPlace image.blocks → AreWell layouts → (fault : ImageFault) → IsGiven where_of due (Err fault) → IsPathFault types layouts image t path fault
  stopped placed well fault given = go due refl given
    where
      at : (f : ImageFault) → ◌≡◌ {A = Walks} due (Err f) → IsPathFault types layouts image t path f
      at f is = elim (walk_stops types layouts image t path placed well f is) [
        | inl h ↦ inl h
        | inr n ↦ inr (inl n)
      ]

      go : (r : Walks) → ◌≡◌ {A = Walks} due r → IsGiven where_of r (Err fault) → IsPathFault types layouts image t path fault
      go (Ok w) is h = inr (inr h)
      go (Err f) is h = elim h [
        | inl same ↦ subst (IsPathFault types layouts image t path) (sym same) (at f is)
        | inr memory ↦ inr (inr memory)
      ]

  module _ (w : Walk) (given : IsGiven where_of due (Ok w)) where
    -- the walk came to the end
    pub came : IsWalked types layouts image t path w
    came = walk_given due w given

    -- no fault was found
    pub faultless : (fault : Option ImageFault) → fault ≡ fault_on_path layouts image (all_seen (where_of w)) → fault ≡ None → IsFaultless types layouts image t path
    faultless fault is none = no_fault types layouts image t path (where_of w) came (sym is ∙ none)

    -- a fault was found
    pub faulty : (found : Option ImageFault) (fault : ImageFault) → found ≡ fault_on_path layouts image (all_seen (where_of w)) → found ≡ Some fault → IsPathFault types layouts image t path fault
    faulty found fault is some = inl (found_fault types layouts image t path (where_of w) came fault (sym is ∙ some))
