-- The words that splits ask for: what one turn comes to, and that the fault of splits stands in one of them.
use Rattle.std.proofs.Common.{◌≡◌, ℕ, ◌+◌, ◌*◌, ◌<◌, ◌≤◌, nat_eq, drop, length, map, List, [], ◌∷◌, ◌++◌, Bool, true, false, Option, Some, None, Result, Ok, Err, inl, inr, refl, sym, subst, ap, ◌∙◌, append-nil, append_assoc}
use Rattle.std.specs.Prelude.{slice_index_or, if◌then◌else◌}
use Rattle.std.proofs.lemmas.Option.{same_Some}
use Rattle.rb_core.specs.declared.layout_decl.Loc.{Loc}
use Rattle.rb_core.specs.declared.layout_decl.Step.{Step}
use Rattle.rb_layout.specs.declared.layout.FlatTree.{FlatTree, Split, Leaf}
use Rattle.rb_layout.specs.declared.layout.FlatTree.TheOpen as T
use Rattle.rb_layout.specs.declared.layout.FlatTree.TheFolds.{fold-FlatArm, fold-roll-FlatArm}
use Rattle.rb_layout.specs.declared.layout.FlatArm.{FlatArm}
use Rattle.rb_layout.specs.Splits.{Under}
use Rattle.rb_layout.proofs.FlatForms as F
use Rattle.rb_layout.proofs.FlatForms.{Each, tree-induction}
use Rattle.rb_coding.specs.Arms.{under_number}
use Rattle.rb_image_text.specs.declared.fault.ImageFault.{ImageFault}
use Rattle.rb_image_text.specs.declared.fault.ImageFault.TheVariants.{BadBits, BadPointer}
use Rattle.rb_image_text.specs.declared.image.ImageBlock.{ImageBlock}
use Rattle.rb_image.specs.declared.kept.Kept.{Kept}
use Rattle.rb_image.specs.Splits.{and_then, kept_in, leaf_at, or_fault, pointed_from, range_at, range_from, range_of, step_over, word_at}
use Rattle.rb_image.proofs.DropLemmas.{drop_past}
use Rattle.rb_image.proofs.FallLemmas.{same_Ok}
use Rattle.rb_image.proofs.RangeLemmas.{Ranged, drop_at, range_left, steps_left}
use Rattle.rb_image.proofs.SpotLemmas.{In, in_left, in_right}
use Rattle.rb_image.proofs.WalkLemmas.{leaf_walk, split_fault, split_turn}
use Rattle.rb_peek.specs.Asked.{Asking, asked_arm, asked_arms, asked_by, asked_step, if_found, ranges_after, ranges_at}
use Rattle.rb_peek.specs.Paths.{Names}
use Rattle.rb_peek.specs.inner.Checking.{found_or_none}

-- One turn -----------------------------------------------------------------------------------

-- an arm of a tree of splits: its literal, and the bits that the splits under it read on the way to a leaf
abbrev asked_under : FlatArm → Under Asking
asked_under = fold-FlatArm Asking (Under Asking) asked_step asked_arm

under_is : (a : FlatArm) → asked_under a ≡ record { literal = a.literal; of = asked_by a.under }
unfolding denote.Hole.Carrier.roll
under_is a = fold-roll-FlatArm Asking (Under Asking) asked_step asked_arm (record { literal = a.literal; under = a.under })

abbrev other_asks : Option FlatTree → Option Asking
other_asks None = None
other_asks (Some t) = Some (asked_by t)

tree_asks : (loc : Loc) (arms : List FlatArm) (other : Option FlatTree) → asked_by (Split loc arms other) ≡ asked_step (T.Split loc (map asked_under arms) (other_asks other))
tree_asks loc arms None = F.fold-Split Asking (Under Asking) asked_step asked_arm loc arms
tree_asks loc arms (Some t) = F.fold-Split-else Asking (Under Asking) asked_step asked_arm loc arms t

-- what is asked below a split
abbrev pub asked_on : Option FlatTree → Asking
asked_on None m ws = []
asked_on (Some t) m ws = asked_by t m ws

arms_ask : (range : Kept) (arms : List FlatArm) (other : Option FlatTree) (m : List ImageBlock) (ws : List Kept)
    → asked_arms range (map asked_under arms) (other_asks other) m ws ≡ asked_on (under_number arms other range.number) m ws
arms_ask range [] None m ws = refl
arms_ask range [] (Some t) m ws = refl
arms_ask range (a ∷ arms) other m ws =
    ap (λ (u : Under Asking). if nat_eq u.literal range.number then u.of m ws else asked_arms range (map asked_under arms) (other_asks other) m ws) (under_is a)
    ∙ turn (arms_ask range arms other m ws) (nat_eq a.literal range.number)
  where
    turn : asked_arms range (map asked_under arms) (other_asks other) m ws ≡ asked_on (under_number arms other range.number) m ws → (b : Bool)
        → (if b then asked_by a.under m ws else asked_arms range (map asked_under arms) (other_asks other) m ws) ≡ asked_on (if b then Some a.under else under_number arms other range.number) m ws
    turn ih true = refl
    turn ih false = ih

pub leaf_asks : (tree : FlatTree) (n : ℕ) (m : List ImageBlock) (ws : List Kept) → tree ≡ Leaf n → asked_by tree m ws ≡ []
leaf_asks tree n m ws is = ap (λ t. asked_by t m ws) is ∙ ap (λ (w : Asking). w m ws) (F.fold-Leaf Asking (Under Asking) asked_step asked_arm n)

split_asks : (tree : FlatTree) (loc : Loc) (arms : List FlatArm) (other : Option FlatTree) (m : List ImageBlock) (ws : List Kept) → tree ≡ Split loc arms other
    → asked_by tree m ws ≡ ranges_at m ws loc ++ if_found (range_at m ws loc) (λ range. asked_arms range (map asked_under arms) (other_asks other) m ws)
split_asks tree loc arms other m ws is = ap (λ t. asked_by t m ws) is ∙ ap (λ (w : Asking). w m ws) (tree_asks loc arms other)

-- a split whose location has no fault
pub split_asked : (tree : FlatTree) (loc : Loc) (arms : List FlatArm) (other : Option FlatTree) (m : List ImageBlock) (ws : List Kept) (range : Kept) (next : Option FlatTree)
    → tree ≡ Split loc arms other → ◌≡◌ {A = Result Kept ImageFault} (range_at m ws loc) (Ok range) → next ≡ under_number arms other range.number
    → asked_by tree m ws ≡ ranges_at m ws loc ++ asked_on next m ws
split_asked tree loc arms other m ws range next is read under =
    split_asks tree loc arms other m ws is
    ∙ ap (λ (r : Result Kept ImageFault). ranges_at m ws loc ++ if_found r (λ x. asked_arms x (map asked_under arms) (other_asks other) m ws)) read
    ∙ ap (λ xs. ranges_at m ws loc ++ xs) (arms_ask range arms other m ws ∙ ap (λ t. asked_on t m ws) (sym under))

-- and one that has one
pub split_stopped : (tree : FlatTree) (loc : Loc) (arms : List FlatArm) (other : Option FlatTree) (m : List ImageBlock) (ws : List Kept) (fault : ImageFault)
    → tree ≡ Split loc arms other → ◌≡◌ {A = Result Kept ImageFault} (range_at m ws loc) (Err fault) → asked_by tree m ws ≡ ranges_at m ws loc
split_stopped tree loc arms other m ws fault is read =
    split_asks tree loc arms other m ws is
    ∙ ap (λ (r : Result Kept ImageFault). ranges_at m ws loc ++ if_found r (λ x. asked_arms x (map asked_under arms) (other_asks other) m ws)) read
    ∙ append-nil (ranges_at m ws loc)

-- The place of a fault -----------------------------------------------------------------------

-- one of the words is named by a fault
pub record IsNamed (ks : List Kept) (fault : ImageFault) : Type 0 where
  pub word : Kept
  pub there : In word ks
  pub names : Names fault word.base word.place

named_left : (xs ys : List Kept) (fault : ImageFault) → IsNamed xs fault → IsNamed (xs ++ ys) fault
named_left xs ys fault n = record { word = n.word; there = in_left n.word xs ys n.there; names = n.names }

named_right : (xs ys : List Kept) (fault : ImageFault) → IsNamed ys fault → IsNamed (xs ++ ys) fault
named_right xs ys fault n = record { word = n.word; there = in_right n.word xs ys n.there; names = n.names }

same_Err : {A : Type 0} (x y : ImageFault) → ◌≡◌ {A = Result A ImageFault} (Err x) (Err y) → x ≡ y
same_Err x y e = cc

missed : {A : Type 0} (o : Option A) (due fault : ImageFault) → ◌≡◌ {A = Result A ImageFault} (or_fault o due) (Err fault) → due ≡ fault
missed {A} None due fault e = same_Err {A = A} due fault e
missed (Some w) due fault e = absurd cc

module _ (m : List ImageBlock) where
  -- a pointer of a location that is refused
  range_named : (ss : List Step) (range : Kept) (fault : ImageFault) → ◌≡◌ {A = Ranged} (range_from m range ss) (Err fault) → IsNamed (range ∷ ranges_after m range ss) fault
  range_named [] range fault e = absurd cc
  range_named (s ∷ ss) range fault e = go (λ next h. range_named ss next fault h) (step_over m range s) refl e
    where
      go : ((next : Kept) → ◌≡◌ {A = Ranged} (range_from m next ss) (Err fault) → IsNamed (next ∷ ranges_after m next ss) fault) → (r : Ranged) → step_over m range s ≡ r → ◌≡◌ {A = Ranged} (and_then r (λ w. range_from m (range_of w s.o s.l) ss)) (Err fault) → IsNamed (range ∷ ranges_after m range (s ∷ ss)) fault
      go more (Err f) is h =
          let at = range.number * s.align in
          let same : f ≡ fault = same_Err {A = Kept} f fault h in
          let named = missed (kept_in m (pointed_from range.base at) s.byte s.width) (BadPointer range.base at) f is in
          record { word = range; there = inl refl; names = inr (at, sym same ∙ sym named) }
      go more (Ok w) is h =
          let rest = more (range_of w s.o s.l) h in
          record {
            word = rest.word;
            there = inr (subst (λ (r : Ranged). In rest.word (if_found r (λ x. range_of x s.o s.l ∷ ranges_after m (range_of x s.o s.l) ss))) (sym is) rest.there);
            names = rest.names;
          }

  -- the bits at a location are read last
  range_there : (ss : List Step) (range found : Kept) → ◌≡◌ {A = Ranged} (range_from m range ss) (Ok found) → In found (range ∷ ranges_after m range ss)
  range_there [] range found e = inl (sym (same_Ok range found e))
  range_there (s ∷ ss) range found e = go (λ next h. range_there ss next found h) (step_over m range s) refl e
    where
      go : ((next : Kept) → ◌≡◌ {A = Ranged} (range_from m next ss) (Ok found) → In found (next ∷ ranges_after m next ss)) → (r : Ranged) → step_over m range s ≡ r → ◌≡◌ {A = Ranged} (and_then r (λ w. range_from m (range_of w s.o s.l) ss)) (Ok found) → In found (range ∷ ranges_after m range (s ∷ ss))
      go more (Err f) is h = absurd cc
      go more (Ok w) is h =
          inr (subst (λ (r : Ranged). In found (if_found r (λ x. range_of x s.o s.l ∷ ranges_after m (range_of x s.o s.l) ss))) (sym is) (more (range_of w s.o s.l) h))

  module _ (ws : List Kept) where
    abbrev Leads : Type 0
    Leads = Result ℕ ImageFault

    abbrev HasPlace : FlatTree → Type 0
    HasPlace tree = (fault : ImageFault) → ◌≡◌ {A = Leads} (leaf_at tree m ws) (Err fault) → IsNamed (asked_by tree m ws) fault

    under_named : (arms : List FlatArm) (other : Option FlatTree) → Each (λ (a : FlatArm). HasPlace a.under) arms → ((next : FlatTree) → other ≡ Some next → HasPlace next)
        → (n : ℕ) (next : FlatTree) → under_number arms other n ≡ Some next → HasPlace next
    under_named [] other each last n next e = last next e
    under_named (a ∷ arms) other each last n next e = go (λ h. under_named arms other each.1 last n next h) (nat_eq a.literal n) e
      where
        go : (under_number arms other n ≡ Some next → HasPlace next) → (b : Bool) → (if b then Some a.under else under_number arms other n) ≡ Some next → HasPlace next
        go more true h = subst HasPlace (same_Some a.under next h) each.0
        go more false h = more h

    split_named : (loc : Loc) (arms : List FlatArm) (other : Option FlatTree) → Each (λ (a : FlatArm). HasPlace a.under) arms → ((next : FlatTree) → other ≡ Some next → HasPlace next)
        → HasPlace (Split loc arms other)
    split_named loc arms other each last fault e = go (range_at m ws loc) refl
      where
        tree : FlatTree
        tree = Split loc arms other

        first : Kept
        first = range_of (word_at ws loc.word) loc.o loc.l

        turn : (range : Kept) → ◌≡◌ {A = Ranged} (range_at m ws loc) (Ok range) → (next : Option FlatTree) → under_number arms other range.number ≡ next → IsNamed (asked_by tree m ws) fault
        turn range is None under =
            let at : ◌≡◌ {A = Leads} (Err (BadBits range.base range.place)) (Err fault) = sym (split_turn tree loc arms other m ws range None refl is (sym under)) ∙ e in
            let n : IsNamed (ranges_at m ws loc) fault =
            record { word = range; there = range_there loc.steps first range is; names = inl (sym (same_Err {A = ℕ} (BadBits range.base range.place) fault at)) } in
            subst (λ ks. IsNamed ks fault) (sym (split_asked tree loc arms other m ws range None refl is (sym under))) (named_left (ranges_at m ws loc) [] fault n)
        turn range is (Some next) under =
            let at : ◌≡◌ {A = Leads} (leaf_at next m ws) (Err fault) = sym (split_turn tree loc arms other m ws range (Some next) refl is (sym under)) ∙ e in
            let n = under_named arms other each last range.number next under fault at in
            subst (λ ks. IsNamed ks fault) (sym (split_asked tree loc arms other m ws range (Some next) refl is (sym under))) (named_right (ranges_at m ws loc) (asked_by next m ws) fault n)

        go : (r : Ranged) → range_at m ws loc ≡ r → IsNamed (asked_by tree m ws) fault
        go (Err f) is =
            let same : f ≡ fault = same_Err {A = ℕ} f fault (sym (split_fault tree loc arms other m ws f refl is) ∙ e) in
            let n = range_named loc.steps first fault (is ∙ ap (λ x. Err x) same) in
            subst (λ ks. IsNamed ks fault) (sym (split_stopped tree loc arms other m ws f refl is)) n
        go (Ok range) is = turn range is (under_number arms other range.number) refl

    -- the fault of splits stands in one of the words that they ask for
    pub fault_named : (tree : FlatTree) → HasPlace tree
    fault_named = tree-induction HasPlace (record {
      split = λ loc arms each. split_named loc arms None each (λ next e. absurd cc);
      split_else = λ loc arms other each last. split_named loc arms (Some other) each (λ next e. subst HasPlace (same_Some other next e) last);
      leaf = λ n fault e. absurd (let is : ◌≡◌ {A = Leads} (leaf_at (Leaf n) m ws) (Ok n) = leaf_walk (Leaf n) n m ws refl in let no = sym is ∙ e in cc);
    })

-- Locations, step by step --------------------------------------------------------------------
given_none : {A : Type 0} (r : Result A ImageFault) → None ≡ found_or_none r → (fault : ImageFault) × ◌≡◌ {A = Result A ImageFault} r (Err fault)
given_none (Err fault) e = (fault, refl)
given_none (Ok x) e = absurd cc

pub given_some : {A : Type 0} (r : Result A ImageFault) (x : A) → Some x ≡ found_or_none r → ◌≡◌ {A = Result A ImageFault} r (Ok x)
given_some (Err fault) x e = absurd cc
given_some (Ok y) x e = ap (λ z. Ok z) (same_Some y x (sym e))

-- where a step is refused, nothing more is read
pub ranges_stop : (m : List ImageBlock) (range : Kept) (steps items : List Step) (i : ℕ) (d : Step) (fault : ImageFault) (found : List Kept) → items ≡ steps → i < length items
    → ◌≡◌ {A = Ranged} (step_over m range (slice_index_or items i d)) (Err fault) → found ++ ranges_after m range (drop i steps) ≡ found
ranges_stop m range steps items i d fault found same lt e =
    let s = slice_index_or items i d in
    ap (λ ss. found ++ ranges_after m range (drop i ss)) (sym same) ∙ ap (λ ss. found ++ ranges_after m range ss) (drop_at items i d lt)
    ∙ ap (λ (r : Ranged). found ++ if_found r (λ w. range_of w s.o s.l ∷ ranges_after m (range_of w s.o s.l) (drop (i + 1) items))) e ∙ append-nil found

-- a step more
module _ (m : List ImageBlock) (range : Kept) (steps items : List Step) (i : ℕ) (d : Step) (same : items ≡ steps) (lt : i < length items) where
  abbrev s : Step
  s = slice_index_or items i d

  pub range_stopped : (due : Ranged) (fault : ImageFault) → due ≡ range_from m range (drop i steps) → ◌≡◌ {A = Ranged} (step_over m range s) (Err fault) → None ≡ found_or_none due
  range_stopped due fault before is = sym (ap found_or_none (before ∙ range_left m range steps items i d same lt (Err fault) is))

  pub ranges_more : (w new : Kept) (found after all : List Kept) → found ++ ranges_after m range (drop i steps) ≡ all → ◌≡◌ {A = Ranged} (step_over m range s) (Ok w) → new ≡ range_of w s.o s.l
      → after ≡ found ++ new ∷ [] → after ++ ranges_after m new (drop (i + 1) steps) ≡ all
  ranges_more w new found after all before is is_new added =
      ap (λ xs. xs ++ ranges_after m new (drop (i + 1) steps)) added ∙ append_assoc found (new ∷ []) (ranges_after m new (drop (i + 1) steps))
      ∙ ap (λ r. found ++ r ∷ ranges_after m r (drop (i + 1) steps)) is_new
      ∙ ap (λ (r : Ranged). found ++ if_found r (λ x. range_of x s.o s.l ∷ ranges_after m (range_of x s.o s.l) (drop (i + 1) steps))) (sym is)
      ∙ ap (λ ss. found ++ ranges_after m range ss) (sym (steps_left m range steps items i d same lt)) ∙ before

-- behind the last step
pub range_ended : (m : List ImageBlock) (range : Kept) (steps : List Step) (i : ℕ) (due : Ranged) → length steps ≤ i → due ≡ range_from m range (drop i steps) → Some range ≡ found_or_none due
range_ended m range steps i due le before = sym (ap found_or_none (before ∙ ap (range_from m range) (drop_past steps i le)))

pub ranges_end : (m : List ImageBlock) (range : Kept) (steps : List Step) (i : ℕ) (found : List Kept) → length steps ≤ i → found ++ ranges_after m range (drop i steps) ≡ found
ranges_end m range steps i found le = ap (λ ss. found ++ ranges_after m range ss) (drop_past steps i le) ∙ append-nil found

-- Trees, split by split ----------------------------------------------------------------------
module _ (tree : FlatTree) (loc : Loc) (arms : List FlatArm) (other : Option FlatTree) (m : List ImageBlock) (ws : List Kept) (is : tree ≡ Split loc arms other) (old new all : List Kept)
    (added : new ≡ old ++ ranges_at m ws loc) (before : old ++ asked_by tree m ws ≡ all) where
  pub turn_stopped : (o : Option Kept) → o ≡ found_or_none (range_at m ws loc) → o ≡ None → new ≡ all
  turn_stopped o is_given none =
      let f = given_none (range_at m ws loc) (sym none ∙ is_given) in
      added ∙ ap (λ xs. old ++ xs) (sym (split_stopped tree loc arms other m ws f.0 is f.1)) ∙ before

  pub turn_asked : (o : Option Kept) (range : Kept) (next : Option FlatTree) → o ≡ found_or_none (range_at m ws loc) → o ≡ Some range → next ≡ under_number arms other range.number
      → new ++ asked_on next m ws ≡ all
  turn_asked o range next is_given some under =
      let read = given_some (range_at m ws loc) range (sym some ∙ is_given) in
      ap (λ xs. xs ++ asked_on next m ws) added ∙ append_assoc old (ranges_at m ws loc) (asked_on next m ws)
      ∙ ap (λ xs. old ++ xs) (sym (split_asked tree loc arms other m ws range next is read under)) ∙ before
