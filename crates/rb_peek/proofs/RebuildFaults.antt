-- The faults of what is rebuilt stand in words on the path.
use Rattle.std.proofs.Common.{◌≡◌, ℕ, zero, suc, ◌+◌, ◌==◌, ◌&&◌, ◌*◌, nat_eq, inl, inr, Bool, true, false, List, [], ◌∷◌, ◌++◌, length, map, replicate, Option, Some, None, Result, Ok, Err, refl, sym, subst, ap, ◌∙◌, arith}
use Rattle.std.specs.Prelude.{◌⊎◌, slice_get, slice_set, if◌then◌else◌}
use Rattle.std.specs.List.{starts_with}
use Rattle.std.proofs.lemmas.Bool.{and_parts}
use Rattle.std.proofs.lemmas.Grind.{common_steps}
use Rattle.std.proofs.lemmas.Option.{same_Some}
use Rattle.rb_core.specs.declared.layout_decl.Loc.{Loc}
use Rattle.rb_core.specs.declared.layout_decl.Step.{Step}
use Rattle.rb_core.specs.declared.pattern.Pat.{Pat, out-Pat, Wild, Var, Num, Con}
use Rattle.rb_core.specs.declared.pattern.Pat.TheOpen as P
use Rattle.rb_core.specs.declared.pattern.Pat.TheOpen.{Pat-F}
use Rattle.rb_core.specs.declared.types.ConRef.{ConRef}
use Rattle.rb_core.specs.declared.types.DataDecl.{DataDecl}
use Rattle.rb_core.specs.declared.types.Ty.{Ty}
use Rattle.rb_core.specs.declared.types.Ty.TheVariants.{Int, Named}
use Rattle.rb_core.proofs.PatternLaws.{Cases, Each, fold-Con, fold-Num, fold-Var, fold-Wild, induction}
use Rattle.rb_layout.specs.Flattening.{same_path}
use Rattle.rb_layout.specs.Positions.{Open, open_positions}
use Rattle.rb_layout.specs.declared.layout.FlatArm.{FlatArm}
use Rattle.rb_layout.specs.declared.layout.FlatTree.{FlatTree, Leaf, Split}
use Rattle.rb_layout.specs.declared.layout.Kind.{Kind}
use Rattle.rb_layout.specs.declared.layout.Kind.TheVariants.{Const, Bits, Word, Pointer}
use Rattle.rb_layout.specs.declared.layout.Layout.{Layout}
use Rattle.rb_layout.specs.declared.layout.Leaf as L
use Rattle.rb_layout.proofs.FlatForms as F
use Rattle.rb_layout.proofs.FlatForms.{tree-induction}
use Rattle.rb_coding.specs.Arms.{under_number}
use Rattle.rb_rel.specs.Relation.{word_count}
use Rattle.rb_image_text.specs.declared.fault.ImageFault.{ImageFault}
use Rattle.rb_image_text.specs.declared.fault.ImageFault.TheVariants.{BadBits, BadPointer, Memory}
use Rattle.rb_image_text.specs.declared.image.ImageBlock.{ImageBlock}
use Rattle.rb_image.specs.declared.kept.Kept.{Kept}
use Rattle.rb_image.specs.Fields.{Position, field_of}
use Rattle.rb_image.specs.Orders.{LocatedPart, order_of}
use Rattle.rb_image.specs.Parts.{addresses_of, bits_at, block_from, block_size, examine, examine_kind, examine_part, field_word, field_words, pointer_lead, is_field_word, kept_at}
use Rattle.rb_image.specs.Splits.{and_then, kept_in, leaf_at, or_fault, pointed_from, range_at, range_from, range_of, step_over, word_at}
use Rattle.rb_image.specs.Ways.{is_below}
use Rattle.rb_image.proofs.FallLemmas.{same_Ok}
use Rattle.rb_image.proofs.PlacedSpots.{AreLed, BlockSeen, order_led}
use Rattle.rb_image.proofs.PointerLemmas.{points}
use Rattle.rb_image.proofs.SpotLemmas.{In}
use Rattle.rb_image.proofs.WalkLemmas.{leaf_walk, split_fault, split_turn}
use Rattle.rb_peek.specs.declared.pack.FieldWords.{FieldWords}
use Rattle.rb_peek.specs.Paths.{Names}
use Rattle.rb_peek.specs.Rebuilds.{Matching, Rebuilding, leaf_chosen, data_words, fields_at, match_con, match_field, match_fields, match_step, matches, or_later, words_of_leaf, rebuilding_within, same_con, words_along, words_at}
use Rattle.rb_peek.specs.Views.{LeafPosition, along, down, down_to, from_root, settled_at, settled_here, step_down, taken_apart, words_here}
use Rattle.rb_peek.specs.Walks.{layout_at, leaf_or_none, open_data}

-- Paths --------------------------------------------------------------------------------------

and_true : (a b : Bool) → a ≡ true → b ≡ true → (a && b) ≡ true
and_true true b x y = y
and_true false b x y = absurd cc

same_self : (a : ℕ) → nat_eq a a ≡ true
same_self a = grind (arith, common_steps)

equal_same : (a b : ℕ) → (a == b) ≡ true → nat_eq b a ≡ true
equal_same a b e = grind (arith, common_steps)

-- an equal path begins with this one
starts_same : (own path : List ℕ) → same_path own path ≡ true → starts_with nat_eq own path ≡ true
starts_same [] [] e = refl
starts_same [] (y ∷ path) e = absurd cc
starts_same (x ∷ own) [] e = absurd cc
starts_same (x ∷ own) (y ∷ path) e =
    let b = and_parts (x == y) (same_path own path) e in
    and_true (nat_eq y x) (starts_with nat_eq own path) (equal_same x y b.0) (starts_same own path b.1)

-- what begins with a longer path begins with the shorter
starts_less : (own path more : List ℕ) → starts_with nat_eq own (path ++ more) ≡ true → starts_with nat_eq own path ≡ true
starts_less own [] more e = refl
starts_less [] (y ∷ path) more e = absurd cc
starts_less (x ∷ own) (y ∷ path) more e =
    let b = and_parts (nat_eq y x) (starts_with nat_eq own (path ++ more)) e in
    and_true (nat_eq y x) (starts_with nat_eq own path) b.0 (starts_less own path more b.1)

below_less : (path more : List ℕ) (kind : Kind) → is_below (path ++ more) kind ≡ true → is_below path kind ≡ true
below_less path more (Const c) e = absurd cc
below_less path more (Bits own a) e = starts_less own path more e
below_less path more (Word own j) e = starts_less own path more e
below_less path more (Pointer align b) e = absurd cc

holds_below : (path : List ℕ) (j : ℕ) (kind : Kind) → is_field_word kind path j ≡ true → is_below path kind ≡ true
holds_below path j (Const c) e = absurd cc
holds_below path j (Bits own a) e = absurd cc
holds_below path j (Word own i) e = starts_same own path (and_parts (same_path own path) (i == j) e).0
holds_below path j (Pointer align b) e = absurd cc

same_err : {A : Type 0} (a b : ImageFault) → ◌≡◌ {A = Result A ImageFault} (Err a) (Err b) → a ≡ b
same_err a b e = cc

-- Faults -------------------------------------------------------------------------------------
module _ (On : ℕ → ℕ → Type 0) (none_on : On 0 0) where
  abbrev IsOn : Kept → Type 0
  IsOn k = On k.base k.place

  abbrev AreOn : List Kept → Type 0
  AreOn ws = (k : Kept) → In k ws → IsOn k

  -- the fault stands in one of these words, or is want of memory
  abbrev pub IsTold : ImageFault → Type 0
  IsTold fault = ((base : ℕ) × (place : ℕ) × On base place × Names fault base place) ⊎ (fault ≡ Memory)

  bits_told : (k : Kept) → IsOn k → (fault : ImageFault) → BadBits k.base k.place ≡ fault → IsTold fault
  bits_told k on fault is = inl (k.base, k.place, on, inl (sym is))

  pointer_told : (k : Kept) → IsOn k → (address : ℕ) (fault : ImageFault) → BadPointer k.base address ≡ fault → IsTold fault
  pointer_told k on address fault is = inl (k.base, k.place, on, inr (address, sym is))

  word_on : (ws : List Kept) → AreOn ws → (n : ℕ) → IsOn (word_at ws n)
  word_on [] on n = none_on
  word_on (w ∷ ws) on zero = on w (inl refl)
  word_on (w ∷ ws) on (suc n) = word_on ws (λ k h. on k (inr h)) n

  or_told : {A : Type 0} (o : Option A) → o ≡ None → (due fault : ImageFault) → ◌≡◌ {A = Result A ImageFault} (or_fault o due) (Err fault) → due ≡ fault
  or_told {A} None is due fault e = same_err {A = A} due fault e
  or_told (Some x) is due fault e = absurd cc

  or_not : {A : Type 0} (o : Option A) → o ≡ None → (due : ImageFault) (x : A) → ◌≡◌ {A = Result A ImageFault} (or_fault o due) (Ok x) → ⊥
  or_not None is due x e = cc
  or_not (Some y) is due x e = cc

  -- Splits, where there are no blocks --------------------------------------------------------
  no_word : (o : Option ℕ) (byte width : ℕ) → kept_in [] o byte width ≡ None
  no_word None byte width = refl
  no_word (Some at) byte width = refl

  abbrev Ranged : Type 0
  Ranged = Result Kept ImageFault

  range_told : (ss : List Step) (range : Kept) → IsOn range → (fault : ImageFault) → ◌≡◌ {A = Ranged} (range_from [] range ss) (Err fault) → IsTold fault
  range_told [] range on fault e = absurd cc
  range_told (s ∷ ss) range on fault e =
      let at = range.number * s.align in
      let o = kept_in [] (pointed_from range.base at) s.byte s.width in
      let stops : ◌≡◌ {A = Ranged} (step_over [] range s) (Err (BadPointer range.base at)) = ap (λ x. or_fault x (BadPointer range.base at)) (no_word (pointed_from range.base at) s.byte s.width) in
      let is : ◌≡◌ {A = Ranged} (Err (BadPointer range.base at)) (Err fault) = sym (ap (λ (r : Ranged). and_then r (λ w. range_from [] (range_of w s.o s.l) ss)) stops) ∙ e in
      pointer_told range on at fault (same_err {A = Kept} (BadPointer range.base at) fault is)

  range_is : (ss : List Step) (range found : Kept) → ◌≡◌ {A = Ranged} (range_from [] range ss) (Ok found) → found ≡ range
  range_is [] range found e = sym (same_Ok range found e)
  range_is (s ∷ ss) range found e =
      let at = range.number * s.align in
      let stops : ◌≡◌ {A = Ranged} (step_over [] range s) (Err (BadPointer range.base at)) = ap (λ x. or_fault x (BadPointer range.base at)) (no_word (pointed_from range.base at) s.byte s.width) in
      let is : ◌≡◌ {A = Ranged} (Err (BadPointer range.base at)) (Ok found) = sym (ap (λ (r : Ranged). and_then r (λ w. range_from [] (range_of w s.o s.l) ss)) stops) ∙ e in
      absurd cc

  module _ (ws : List Kept) (on : AreOn ws) where
    abbrev Leads : Type 0
    Leads = Result ℕ ImageFault

    abbrev Told : FlatTree → Type 0
    Told tree = (fault : ImageFault) → ◌≡◌ {A = Leads} (leaf_at tree [] ws) (Err fault) → IsTold fault

    under_told : (arms : List FlatArm) (other : Option FlatTree) → F.Each (λ (a : FlatArm). Told a.under) arms → ((next : FlatTree) → other ≡ Some next → Told next)
        → (n : ℕ) (next : FlatTree) → under_number arms other n ≡ Some next → Told next
    under_told [] other each last n next e = last next e
    under_told (a ∷ arms) other each last n next e = go (λ h. under_told arms other each.1 last n next h) (nat_eq a.literal n) e
      where
        go : (under_number arms other n ≡ Some next → Told next) → (b : Bool) → (if b then Some a.under else under_number arms other n) ≡ Some next → Told next
        go more true h = subst Told (same_Some a.under next h) each.0
        go more false h = more h

    split_told : (loc : Loc) (arms : List FlatArm) (other : Option FlatTree) → F.Each (λ (a : FlatArm). Told a.under) arms → ((next : FlatTree) → other ≡ Some next → Told next) → Told (Split loc arms other)
    split_told loc arms other each last fault e = go (range_at [] ws loc) refl
      where
        tree : FlatTree
        tree = Split loc arms other

        first : Kept
        first = range_of (word_at ws loc.word) loc.o loc.l

        turn : (range : Kept) → ◌≡◌ {A = Ranged} (range_at [] ws loc) (Ok range) → (next : Option FlatTree) → under_number arms other range.number ≡ next → IsTold fault
        turn range is None under =
            let at : ◌≡◌ {A = Leads} (Err (BadBits range.base range.place)) (Err fault) = sym (split_turn tree loc arms other [] ws range None refl is (sym under)) ∙ e in
            let here : IsOn range = subst IsOn (sym (range_is loc.steps first range is)) (word_on ws on loc.word) in
            bits_told range here fault (same_err {A = ℕ} (BadBits range.base range.place) fault at)
        turn range is (Some next) under =
            let at : ◌≡◌ {A = Leads} (leaf_at next [] ws) (Err fault) = sym (split_turn tree loc arms other [] ws range (Some next) refl is (sym under)) ∙ e in
            under_told arms other each last range.number next under fault at

        go : (r : Ranged) → range_at [] ws loc ≡ r → IsTold fault
        go (Err f) is =
            let same : f ≡ fault = same_err {A = ℕ} f fault (sym (split_fault tree loc arms other [] ws f refl is) ∙ e) in
            range_told loc.steps first (word_on ws on loc.word) fault (is ∙ ap (λ x. Err x) same)
        go (Ok range) is = turn range is (under_number arms other range.number) refl

    leaf_told : (tree : FlatTree) → Told tree
    leaf_told = tree-induction Told (record {
      split = λ loc arms each. split_told loc arms None each (λ next e. absurd cc);
      split_else = λ loc arms other each last. split_told loc arms (Some other) each (λ next e. subst Told (same_Some other next e) last);
      leaf = λ n fault e. absurd (let is : ◌≡◌ {A = Leads} (leaf_at (Leaf n) [] ws) (Ok n) = leaf_walk (Leaf n) n [] ws refl in let no = sym is ∙ e in cc);
    })

    -- Parts, where there are no blocks -------------------------------------------------------
    abbrev Addresses : Type 0
    Addresses = Result (List ℕ) ImageFault

    no_block : (o : Option ℕ) (size : ℕ) → block_from [] o size ≡ None
    no_block None size = refl
    no_block (Some at) size = refl

    of_root : (seen : ℕ → ℕ) → ((c : ℕ) → seen c ≡ 0) → (o : Option ℕ) → BlockSeen seen o → o ≡ None
    of_root seen none None h = refl
    of_root seen none (Some b) h = absurd (let z = none b in omega (arith, h, z))

    root_bits : (m : List ImageBlock) (ats : List ℕ) (s : LocatedPart) → s.block ≡ None → IsOn (bits_at m ws ats s)
    root_bits m ats s is = subst (λ (o : Option ℕ). On (kept_at m ws ats o s).base (kept_at m ws ats o s).place) (sym is) (word_on ws on s.word)

    module _ (leaf : L.Leaf) where
      refused : (ats : List ℕ) (bits : Kept) (align b : ℕ) (fault : ImageFault) → IsOn bits
          → ◌≡◌ {A = Addresses} (and_then (pointer_lead [] leaf bits align b) (λ at. Ok (slice_set ats b at))) (Err fault) → IsTold fault
      refused ats bits align b fault here e =
          let at = bits.number * align in
          let stops : ◌≡◌ {A = Result ℕ ImageFault} (pointer_lead [] leaf bits align b) (Err (BadPointer bits.base at)) =
          ap (λ x. or_fault x (BadPointer bits.base at)) (no_block (pointed_from bits.base at) (block_size (slice_get leaf.blocks b))) in
          let is : ◌≡◌ {A = Addresses} (Err (BadPointer bits.base at)) (Err fault) = sym (ap (λ (r : Result ℕ ImageFault). and_then r (λ a. Ok (slice_set ats b a))) stops) ∙ e in
          pointer_told bits here at fault (same_err {A = List ℕ} (BadPointer bits.base at) fault is)

      not_followed : (ats next : List ℕ) (bits : Kept) (align b : ℕ) → ◌≡◌ {A = Addresses} (and_then (pointer_lead [] leaf bits align b) (λ at. Ok (slice_set ats b at))) (Ok next) → ⊥
      not_followed ats next bits align b e =
          let at = bits.number * align in
          let stops : ◌≡◌ {A = Result ℕ ImageFault} (pointer_lead [] leaf bits align b) (Err (BadPointer bits.base at)) =
          ap (λ x. or_fault x (BadPointer bits.base at)) (no_block (pointed_from bits.base at) (block_size (slice_get leaf.blocks b))) in
          let is : ◌≡◌ {A = Addresses} (Err (BadPointer bits.base at)) (Ok next) = sym (ap (λ (r : Result ℕ ImageFault). and_then r (λ a. Ok (slice_set ats b a))) stops) ∙ e in
          cc

      const_told : (ats : List ℕ) (bits : Kept) (fault : ImageFault) → IsOn bits → (t : Bool) → ◌≡◌ {A = Addresses} (if t then Ok ats else Err (BadBits bits.base bits.place)) (Err fault) → IsTold fault
      const_told ats bits fault here true e = absurd cc
      const_told ats bits fault here false e = bits_told bits here fault (same_err {A = List ℕ} (BadBits bits.base bits.place) fault e)

      -- what examining one part comes to
      part_told : (ats : List ℕ) (bits : Kept) (fault : ImageFault) → IsOn bits → (kind : Kind) → ◌≡◌ {A = Addresses} (examine_kind [] leaf ats bits kind) (Err fault) → IsTold fault
      part_told ats bits fault here (Const c) e = const_told ats bits fault here (bits.number == c) e
      part_told ats bits fault here (Bits path a) e = absurd cc
      part_told ats bits fault here (Word path j) e = absurd cc
      part_told ats bits fault here (Pointer align b) e = refused ats bits align b fault here e

      no_pointer : (ats next : List ℕ) (bits : Kept) (kind : Kind) → ◌≡◌ {A = Addresses} (examine_kind [] leaf ats bits kind) (Ok next) → (c : ℕ) → points c kind ≡ 0
      no_pointer ats next bits (Const n) e c = refl
      no_pointer ats next bits (Bits path a) e c = refl
      no_pointer ats next bits (Word path j) e c = refl
      no_pointer ats next bits (Pointer align b) e c = absurd (not_followed ats next bits align b e)

      examine_told : (ss : List LocatedPart) (seen : ℕ → ℕ) (ats : List ℕ) → ((c : ℕ) → seen c ≡ 0) → AreLed seen ss → (fault : ImageFault) → ◌≡◌ {A = Addresses} (examine [] leaf ws ats ss) (Err fault) → IsTold fault
      examine_told [] seen ats none led fault e = absurd cc
      examine_told (s ∷ ss) seen ats none led fault e = go (examine_part [] leaf ws ats s) refl e (λ next n g. examine_told ss (λ c. points c s.part.kind + seen c) next n led.1 fault g)
        where
          here : IsOn (bits_at [] ws ats s)
          here = root_bits [] ats s (of_root seen none s.block led.0)

          go : (r : Addresses) → ◌≡◌ {A = Addresses} (examine_part [] leaf ws ats s) r → ◌≡◌ {A = Addresses} (and_then r (λ next. examine [] leaf ws next ss)) (Err fault)
              → ((next : List ℕ) → ((c : ℕ) → points c s.part.kind + seen c ≡ 0) → ◌≡◌ {A = Addresses} (examine [] leaf ws next ss) (Err fault) → IsTold fault) → IsTold fault
          go (Err f) is g more = part_told ats (bits_at [] ws ats s) fault here s.part.kind (is ∙ ap (λ x. Err x) (same_err {A = List ℕ} f fault g))
          go (Ok next) is g more =
              more next (λ c. (let zero_here = no_pointer ats next (bits_at [] ws ats s) s.part.kind is c in let zero_seen = none c in omega (arith, zero_here, zero_seen))) g

      all_root : (ss : List LocatedPart) (seen : ℕ → ℕ) (ats found : List ℕ) → ((c : ℕ) → seen c ≡ 0) → AreLed seen ss → ◌≡◌ {A = Addresses} (examine [] leaf ws ats ss) (Ok found)
          → (s : LocatedPart) → In s ss → s.block ≡ None
      all_root [] seen ats found none led e s h = absurd h
      all_root (x ∷ ss) seen ats found none led e s h = go (examine_part [] leaf ws ats x) refl e (λ next n g i. all_root ss (λ c. points c x.part.kind + seen c) next found n led.1 g s i)
        where
          go : (r : Addresses) → ◌≡◌ {A = Addresses} (examine_part [] leaf ws ats x) r → ◌≡◌ {A = Addresses} (and_then r (λ next. examine [] leaf ws next ss)) (Ok found)
              → ((next : List ℕ) → ((c : ℕ) → points c x.part.kind + seen c ≡ 0) → ◌≡◌ {A = Addresses} (examine [] leaf ws next ss) (Ok found) → In s ss → s.block ≡ None) → s.block ≡ None
          go (Err f) is g more = absurd cc
          go (Ok next) is g more = elim h [
            | inl same ↦ ap (λ (y : LocatedPart). y.block) same ∙ of_root seen none x.block led.0
            | inr i ↦ more next (λ c. (let zero_here = no_pointer ats next (bits_at [] ws ats x) x.part.kind is c in let zero_seen = none c in omega (arith, zero_here, zero_seen))) g i
          ]

  -- Positions --------------------------------------------------------------------------------
  module _ (types : List DataDecl) (layouts : List Layout) (m : List ImageBlock) where
    abbrev Stood : Type 0
    Stood = Result LeafPosition ImageFault

    -- the parts at a position and below it are of words on the path
    abbrev pub AllOn : LeafPosition → Type 0
    AllOn x = (s : LocatedPart) → In s (order_of x.leaf) → is_below x.at s.part.kind ≡ true → IsOn (bits_at m x.root x.addresses s)

    field_on : (x : LeafPosition) (path : List ℕ) (j : ℕ) (ss : List LocatedPart) → ((s : LocatedPart) → In s ss → is_field_word s.part.kind path j ≡ true → IsOn (bits_at m x.root x.addresses s))
        → IsOn (field_word m x.root x.addresses ss path j)
    field_on x path j [] each = none_on
    field_on x path j (s ∷ ss) each = go (field_on x path j ss (λ t h. each t (inr h))) (is_field_word s.part.kind path j) refl
      where
        go : IsOn (field_word m x.root x.addresses ss path j) → (b : Bool) → is_field_word s.part.kind path j ≡ b → IsOn (if b then bits_at m x.root x.addresses s else field_word m x.root x.addresses ss path j)
        go rest true is = each s (inl refl) is
        go rest false is = rest

    fields_on : (word : List ℕ → ℕ → Kept) (path : List ℕ) → ((j : ℕ) → IsOn (word path j)) → (j n : ℕ) → AreOn (field_words word path j n)
    fields_on word path each j zero k h = absurd h
    fields_on word path each j (suc n) k (inl is) = subst IsOn (sym is) (each j)
    fields_on word path each j (suc n) k (inr h) = fields_on word path each (j + 1) n k h

    words_on : (x : LeafPosition) → AllOn x → (t : ℕ) → AreOn (words_here layouts m x t)
    words_on x on t =
        fields_on (field_word m x.root x.addresses (order_of x.leaf)) x.at
        (λ j. field_on x x.at j (order_of x.leaf) (λ s h e. on s h (holds_below x.at j s.part.kind e))) 0 (word_count layouts (Named t))

    -- a value that is seen in its own leaf, and the fault that keeps it from being seen
    record Seen (r : Stood) : Type 0 where
      found : (y : LeafPosition) → ◌≡◌ {A = Stood} r (Ok y) → AllOn y
      fault : (f : ImageFault) → ◌≡◌ {A = Stood} r (Err f) → IsTold f

    taken_seen : (t : ℕ) (ws : List Kept) → AreOn ws → Seen (taken_apart layouts t ws)
    taken_seen t ws on = leads (leaf_at (layout_at layouts t).tree [] ws) refl
      where
        the_leaf : ℕ → L.Leaf
        the_leaf n = leaf_or_none (slice_get (layout_at layouts t).leaves n)

        on_leaf : (n : ℕ) (a : Result (List ℕ) ImageFault) → ◌≡◌ {A = Result (List ℕ) ImageFault} (addresses_of [] (the_leaf n) ws) a
            → Seen (and_then a (λ none. Ok (from_root t ws (the_leaf n))))
        on_leaf n (Err f) is = record {
          found = λ y e. absurd cc;
          fault = λ g e. subst IsTold (same_err {A = LeafPosition} f g e)
              (examine_told ws on (the_leaf n) (order_of (the_leaf n)) (λ c. 0) (replicate (length (the_leaf n).blocks) 0) (λ c. refl) (order_led (the_leaf n)) f is);
        }
        on_leaf n (Ok none) is = record {
          found = λ y e. subst AllOn (same_Ok (from_root t ws (the_leaf n)) y e)
              (λ s h below. root_bits ws on m (replicate (length (the_leaf n).blocks) 0) s
              (all_root ws on (the_leaf n) (order_of (the_leaf n)) (λ c. 0) (replicate (length (the_leaf n).blocks) 0) none (λ c. refl) (order_led (the_leaf n)) is s h));
          fault = λ g e. absurd cc;
        }

        leads : (r : Result ℕ ImageFault) → ◌≡◌ {A = Result ℕ ImageFault} (leaf_at (layout_at layouts t).tree [] ws) r
            → Seen (and_then r (λ n. and_then (addresses_of [] (the_leaf n) ws) (λ none. Ok (from_root t ws (the_leaf n)))))
        leads (Err f) is = record { found = λ y e. absurd cc; fault = λ g e. subst IsTold (same_err {A = LeafPosition} f g e) (leaf_told ws on (layout_at layouts t).tree f is) }
        leads (Ok n) is = on_leaf n (addresses_of [] (the_leaf n) ws) refl

    settled_seen : (x : LeafPosition) → AllOn x → Seen (settled_here layouts m x)
    settled_seen x on = go (open_data x.here)
      where
        go : (o : Option ℕ) → Seen (settled_at layouts m x o)
        go None = record { found = λ y e. subst AllOn (same_Ok x y e) on; fault = λ f e. absurd cc }
        go (Some t) = taken_seen t (words_here layouts m x t) (words_on x on t)

    down_on : (x : LeafPosition) → AllOn x → (i : ℕ) (o : Option Position) (y : LeafPosition) → down_to x i o ≡ Some y → AllOn y
    down_on x on i None y e = absurd cc
    down_on x on i (Some pos) y e =
        subst AllOn (same_Some (record x { at = x.at ++ i ∷ []; here = pos }) y e) (λ s h below. on s h (below_less x.at (i ∷ []) s.part.kind below))

    -- Leaves ---------------------------------------------------------------------------------
    abbrev Matched : Type 0
    Matched = Result Bool ImageFault

    abbrev IsTelling : Matching → Type 0
    IsTelling go = (x : LeafPosition) → AllOn x → (f : ImageFault) → ◌≡◌ {A = Matched} (go x) (Err f) → IsTold f

    abbrev AllTell : List Matching → Type 0
    AllTell [] = Unit {0}
    AllTell (go ∷ gos) = IsTelling go × AllTell gos

    fields_tell : (gos : List Matching) → AllTell gos → (x : LeafPosition) → AllOn x → (i : ℕ) (f : ImageFault) → ◌≡◌ {A = Matched} (match_fields types gos x i) (Err f) → IsTold f
    fields_tell [] all x on i f e = absurd cc
    fields_tell (go ∷ gos) all x on i f e = first (down types x i) refl (match_field go (down types x i)) refl e (λ h. fields_tell gos all.1 x on (i + 1) f h)
      where
        field : (o : Option LeafPosition) → down types x i ≡ o → (g : ImageFault) → ◌≡◌ {A = Matched} (match_field go o) (Err g) → IsTold g
        field None is g h = absurd cc
        field (Some y) is g h = all.0 y (down_on x on i (field_of types x.here.pat i) y is) g h

        rest : (so : Bool) → ◌≡◌ {A = Matched} (if so then match_fields types gos x (i + 1) else Ok false) (Err f) → (◌≡◌ {A = Matched} (match_fields types gos x (i + 1)) (Err f) → IsTold f) → IsTold f
        rest true h more = more h
        rest false h more = absurd cc

        first : (o : Option LeafPosition) → down types x i ≡ o → (r : Matched) → ◌≡◌ {A = Matched} (match_field go (down types x i)) r
            → ◌≡◌ {A = Matched} (and_then r (λ so. if so then match_fields types gos x (i + 1) else Ok false)) (Err f)
            → (◌≡◌ {A = Matched} (match_fields types gos x (i + 1)) (Err f) → IsTold f) → IsTold f
        first o is (Err g) found h more = subst IsTold (same_err {A = Bool} g f h) (field (down types x i) refl g found)
        first o is (Ok so) found h more = rest so h more

    con_tells : (c : ConRef) (gos : List Matching) → AllTell gos → (y : LeafPosition) → AllOn y → (l : Pat-F Pat) (f : ImageFault) → ◌≡◌ {A = Matched} (match_con types c gos y l) (Err f) → IsTold f
    con_tells c gos all y on (P.Wild at) f e = absurd cc
    con_tells c gos all y on (P.Var at v) f e = absurd cc
    con_tells c gos all y on (P.Num at n) f e = absurd cc
    con_tells c gos all y on (P.Con at d ps) f e = go (same_con c d) e
      where
        go : (b : Bool) → ◌≡◌ {A = Matched} (if b then match_fields types gos y 0 else Ok false) (Err f) → IsTold f
        go true h = fields_tell gos all y on 0 f h
        go false h = absurd cc

    abbrev Tells : Pat → Type 0
    Tells p = IsTelling (matches types layouts m p)

    each_tells : (ps : List Pat) → Each Tells ps → AllTell (map (matches types layouts m) ps)
    each_tells [] each = tt
    each_tells (p ∷ ps) each = (each.0, each_tells ps each.1)

    con_case : (at : ℕ) (c : ConRef) (ps : List Pat) → Each Tells ps → Tells (Con at c ps)
    con_case at c ps each x on f e =
        let gos = map (matches types layouts m) ps in
        let is : ◌≡◌ {A = Matched} (matches types layouts m (Con at c ps) x) (and_then (settled_here layouts m x) (λ y. match_con types c gos y (out-Pat y.here.pat))) =
        ap (λ (go : Matching). go x) (fold-Con Matching (match_step types layouts m) at c ps) in
        turn (settled_seen x on) (settled_here layouts m x) refl (sym is ∙ e)
      where
        turn : Seen (settled_here layouts m x) → (r : Stood) → ◌≡◌ {A = Stood} (settled_here layouts m x) r
            → ◌≡◌ {A = Matched} (and_then r (λ y. match_con types c (map (matches types layouts m) ps) y (out-Pat y.here.pat))) (Err f) → IsTold f
        turn seen (Err g) is h = seen.fault f (is ∙ ap (λ z. Err z) (same_err {A = Bool} g f h))
        turn seen (Ok y) is h = con_tells c (map (matches types layouts m) ps) (each_tells ps each) y (seen.found y is) (out-Pat y.here.pat) f h

    never : (p : Pat) (b : Bool) → ((x : LeafPosition) → ◌≡◌ {A = Matched} (matches types layouts m p x) (Ok b)) → Tells p
    never p b is x on f e = absurd (let no : ◌≡◌ {A = Matched} (Ok b) (Err f) = sym (is x) ∙ e in cc)

    match_cases : Cases Tells
    match_cases = record {
      wild = λ at. never (Wild at) true (λ x. ap (λ (go : Matching). go x) (fold-Wild Matching (match_step types layouts m) at));
      var = λ at v. never (Var at v) true (λ x. ap (λ (go : Matching). go x) (fold-Var Matching (match_step types layouts m) at v));
      num = λ at n. never (Num at n) false (λ x. ap (λ (go : Matching). go x) (fold-Num Matching (match_step types layouts m) at n));
      con = con_case;
    }

    matches_tell : (p : Pat) → Tells p
    matches_tell = induction Tells match_cases

    abbrev Chosen : Type 0
    Chosen = Result L.Leaf ImageFault

    later_told : (r : Matched) (leaf : L.Leaf) (later : Chosen) (f : ImageFault) → ((g : ImageFault) → ◌≡◌ {A = Matched} r (Err g) → IsTold g) → ((g : ImageFault) → ◌≡◌ {A = Chosen} later (Err g) → IsTold g)
        → ◌≡◌ {A = Chosen} (or_later r leaf later) (Err f) → IsTold f
    later_told (Ok true) leaf later f own more e = absurd cc
    later_told (Ok false) leaf later f own more e = more f e
    later_told (Err g) leaf (Ok other) f own more e = absurd cc
    later_told (Err g) leaf (Err h) f own more e = subst IsTold (same_err {A = L.Leaf} g f e) (own g refl)

    chosen_told : (leaves : List L.Leaf) (x : LeafPosition) → AllOn x → (f : ImageFault) → ◌≡◌ {A = Chosen} (leaf_chosen types layouts m leaves x) (Err f) → IsTold f
    chosen_told [] x on f e = inr (sym (same_err {A = L.Leaf} Memory f e))
    chosen_told (leaf ∷ leaves) x on f e =
        later_told (matches types layouts m leaf.prov x) leaf (leaf_chosen types layouts m leaves x) f (matches_tell leaf.prov x on) (chosen_told leaves x on) e

    -- Words ----------------------------------------------------------------------------------
    abbrev Words : Type 0
    Words = Result (List ℕ) ImageFault

    abbrev RebuildTells : Rebuilding → Type 0
    RebuildTells go = (t : ℕ) (x : LeafPosition) → AllOn x → (f : ImageFault) → ◌≡◌ {A = Words} (go t x) (Err f) → IsTold f

    step_seen : (x : LeafPosition) → AllOn x → (i : ℕ) → Seen (step_down types layouts m x i)
    step_seen x on i = turn (settled_seen x on) (settled_here layouts m x) refl
      where
        field : (y : LeafPosition) → AllOn y → (o : Option LeafPosition) → down types y i ≡ o → Seen (or_fault o Memory)
        field y here None is = record { found = λ z e. absurd cc; fault = λ f e. inr (sym (same_err {A = LeafPosition} Memory f e)) }
        field y here (Some z) is = record { found = λ w e. subst AllOn (same_Ok z w e) (down_on y here i (field_of types y.here.pat i) z is); fault = λ f e. absurd cc }

        turn : Seen (settled_here layouts m x) → (r : Stood) → ◌≡◌ {A = Stood} (settled_here layouts m x) r → Seen (and_then r (λ y. or_fault (down types y i) Memory))
        turn seen (Err g) is = record { found = λ z e. absurd cc; fault = λ f e. seen.fault f (is ∙ ap (λ z. Err z) (same_err {A = LeafPosition} g f e)) }
        turn seen (Ok y) is = field y (seen.found y is) (down types y i) refl

    along_seen : (path : List ℕ) (x : LeafPosition) → AllOn x → Seen (along types layouts m x path)
    along_seen [] x on = record { found = λ y e. subst AllOn (same_Ok x y e) on; fault = λ f e. absurd cc }
    along_seen (i ∷ path) x on = turn (step_seen x on i) (step_down types layouts m x i) refl (along_seen path)
      where
        turn : Seen (step_down types layouts m x i) → (r : Stood) → ◌≡◌ {A = Stood} (step_down types layouts m x i) r → ((y : LeafPosition) → AllOn y → Seen (along types layouts m y path))
            → Seen (and_then r (λ y. along types layouts m y path))
        turn seen (Err g) is more = record { found = λ z e. absurd cc; fault = λ f e. seen.fault f (is ∙ ap (λ z. Err z) (same_err {A = LeafPosition} g f e)) }
        turn seen (Ok y) is more = more y (seen.found y is)

    module _ (go : Rebuilding) (tells : RebuildTells go) where
      data_told : (t : ℕ) (x : LeafPosition) → AllOn x → (l : Pat-F Pat) (f : ImageFault) → ◌≡◌ {A = Words} (data_words types layouts m go t x l) (Err f) → IsTold f
      data_told t x on (P.Wild at) f e = absurd cc
      data_told t x on (P.Var at v) f e = absurd cc
      data_told t x on (P.Num at n) f e = inr (sym (same_err {A = List ℕ} Memory f e))
      data_told t x on (P.Con at c ps) f e = tells t x on f e

      words_told : (ty : Ty) (x : LeafPosition) → AllOn x → (f : ImageFault) → ◌≡◌ {A = Words} (words_at types layouts m go ty x) (Err f) → IsTold f
      words_told (Int bits) x on f e = absurd cc
      words_told (Named t) x on f e = data_told t x on (out-Pat x.here.pat) f e

      along_told : (x : LeafPosition) → AllOn x → (path : List ℕ) (f : ImageFault) → ◌≡◌ {A = Words} (words_along types layouts m go x path) (Err f) → IsTold f
      along_told x on path f e = turn (along_seen path x on) (along types layouts m x path) refl e
        where
          turn : Seen (along types layouts m x path) → (r : Stood) → ◌≡◌ {A = Stood} (along types layouts m x path) r → ◌≡◌ {A = Words} (and_then r (λ y. words_at types layouts m go y.here.ty y)) (Err f) → IsTold f
          turn seen (Err g) is h = seen.fault f (is ∙ ap (λ z. Err z) (same_err {A = List ℕ} g f h))
          turn seen (Ok y) is h = words_told y.here.ty y (seen.found y is) f h

      abbrev Fields : Type 0
      Fields = Result (List FieldWords) ImageFault

      fields_told : (os : List Open) (x : LeafPosition) → AllOn x → (f : ImageFault) → ◌≡◌ {A = Fields} (fields_at types layouts m go x os) (Err f) → IsTold f
      fields_told [] x on f e = absurd cc
      fields_told (o ∷ os) x on f e = first (words_along types layouts m go x o.path) refl e (λ h. fields_told os x on f h)
        where
          rest : (ws : List ℕ) (r : Fields) → ◌≡◌ {A = Fields} (fields_at types layouts m go x os) r → ◌≡◌ {A = Fields} (and_then r (λ fields. Ok (record { path = o.path; words = ws } ∷ fields))) (Err f)
              → (◌≡◌ {A = Fields} (fields_at types layouts m go x os) (Err f) → IsTold f) → IsTold f
          rest ws (Err g) is h more = more (is ∙ ap (λ z. Err z) (same_err {A = List FieldWords} g f h))
          rest ws (Ok fields) is h more = absurd cc

          first : (r : Words) → ◌≡◌ {A = Words} (words_along types layouts m go x o.path) r
              → ◌≡◌ {A = Fields} (and_then r (λ ws. and_then (fields_at types layouts m go x os) (λ fields. Ok (record { path = o.path; words = ws } ∷ fields)))) (Err f)
              → (◌≡◌ {A = Fields} (fields_at types layouts m go x os) (Err f) → IsTold f) → IsTold f
          first (Err g) is h more = along_told x on o.path f (is ∙ ap (λ z. Err z) (same_err {A = List FieldWords} g f h))
          first (Ok ws) is h more = rest ws (fields_at types layouts m go x os) refl h more

    rebuild_told : (n : ℕ) → RebuildTells (rebuilding_within types layouts m n)
    rebuild_told zero t x on f e = inr (sym (same_err {A = List ℕ} Memory f e))
    rebuild_told (suc n) t x on f e = first (leaf_chosen types layouts m (layout_at layouts t).leaves x) refl e (rebuild_told n)
      where
        rest : (leaf : L.Leaf) → RebuildTells (rebuilding_within types layouts m n) → (r : Result (List FieldWords) ImageFault)
            → ◌≡◌ {A = Result (List FieldWords) ImageFault} (fields_at types layouts m (rebuilding_within types layouts m n) x (open_positions types leaf.prov)) r
            → ◌≡◌ {A = Words} (and_then r (λ fields. Ok (words_of_leaf leaf fields))) (Err f) → IsTold f
        rest leaf tells (Err g) is h =
            fields_told (rebuilding_within types layouts m n) tells (open_positions types leaf.prov) x on f (is ∙ ap (λ z. Err z) (same_err {A = List ℕ} g f h))
        rest leaf tells (Ok fields) is h = absurd cc

        first : (r : Chosen) → ◌≡◌ {A = Chosen} (leaf_chosen types layouts m (layout_at layouts t).leaves x) r
            → ◌≡◌ {A = Words} (and_then r (λ leaf. and_then (fields_at types layouts m (rebuilding_within types layouts m n) x (open_positions types leaf.prov)) (λ fields. Ok (words_of_leaf leaf fields)))) (Err f)
            → RebuildTells (rebuilding_within types layouts m n) → IsTold f
        first (Err g) is h tells = chosen_told (layout_at layouts t).leaves x on f (is ∙ ap (λ z. Err z) (same_err {A = List ℕ} g f h))
        first (Ok leaf) is h tells = rest leaf tells (fields_at types layouts m (rebuilding_within types layouts m n) x (open_positions types leaf.prov)) refl h

    -- what stands at a position in words on the path has its faults there
    pub position_told : (x : LeafPosition) → AllOn x → (f : ImageFault) → ◌≡◌ {A = Words} (words_at types layouts m (rebuilding_within types layouts m (length layouts)) x.here.ty x) (Err f) → IsTold f
    position_told x on f e = words_told (rebuilding_within types layouts m (length layouts)) (rebuild_told (length layouts)) x.here.ty x on f e
