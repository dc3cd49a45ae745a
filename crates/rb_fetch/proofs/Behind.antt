-- A look with the code of all leaves behind it, and the code of one leaf that is told without a look.
use Rattle.std.proofs.Common.{◌≡◌, ℕ, ◌+◌, ◌<◌, ◌≤◌, length, List, [], ◌∷◌, ◌++◌, Bool, true, false, Some, get_or, Result, IfOk, sym, subst, ap, ◌∙◌, arith}
use Rattle.std.specs.Prelude.{slice_get, slice_index}
use Rattle.std.proofs.lemmas.Option.{same_Some, slice_get_within}
use Rattle.std.proofs.lemmas.Result.{IfOk-weaker}
use Rattle.rb_core.specs.declared.value.Value.{Value}
use Rattle.rb_core.specs.declared.types.Ty.TheVariants.{Named}
use Rattle.rb_core.specs.TypedPrograms.{IsTyped}
use Rattle.rb_core.specs.Values.{is_of_type, part_at}
use Rattle.rb_bytes.specs.Memory.{Memory, IsGood}
use Rattle.rb_target.specs.declared.body.Hole.{Hole}
use Rattle.rb_target.specs.Growth.{Grows}
use Rattle.rb_target.specs.Meaning.{slots_at}
use Rattle.rb_target.specs.Sheet.{Sheet}
use Rattle.rb_layout.specs.declared.agreed.LaidOut.{LaidOut}
use Rattle.rb_layout.specs.declared.layout.Layout.{Layout}
use Rattle.rb_layout.specs.declared.layout.Leaf.{Leaf}
use Rattle.rb_layout.specs.Agreement.{Agrees}
use Rattle.rb_layout.specs.Flattening.{flat_layouts}
use Rattle.rb_layout.specs.Positions.{leaf_of, layout_of}
use Rattle.rb_rel.specs.Switches.{depth_of, inner_heads, mend_of}
use Rattle.rb_rel.proofs.Agreeing.{lawful}
use Rattle.rb_fragment.specs.Adding.{Adds}
use Rattle.rb_fragment.specs.Arms.{AreHoles, AreOfOneWay, ArePatchable, with_targets}
use Rattle.rb_fragment.specs.Pieces.{Branches, CodePiece}
use Rattle.rb_fragment.specs.Plan.{Plan, Rep, words_needed}
use Rattle.rb_fragment.specs.Slots.{AllBelow}
use Rattle.rb_fragment.proofs.Holds.{AllBelow-more}
use Rattle.rb_fragment.proofs.Patching.{closed_slots, holes_patchable}
use Rattle.rb_fragment.proofs.Pieces.{piece_weaken}
use Rattle.rb_compose.specs.declared.subvalue.Subvalue.{Subvalue}
use Rattle.rb_fetch.specs.declared.choice.Way.{Way}
use Rattle.rb_fetch.specs.declared.known.Seen.{Seen}
use Rattle.rb_fetch.specs.declared.asking.Look.{Look}
use Rattle.rb_fetch.specs.declared.asking.Question.{Question}
use Rattle.rb_fetch.specs.inner.Asking.{AsksFor, IsLook, NeedsNone}
use Rattle.rb_fetch.specs.Finding.{FindsLeaf, HasLeaf, leaf_count, layout_leaf_count}
use Rattle.rb_fetch.specs.inner.Choosing.{AddsWays, AreEndOf, AreOpen, AreWaysOf, BranchIn, BranchesDone, BranchesStand, ChoosesBelow, ChoosesBy, ChoosesFrom, ChoosesUnder, HasLeaves, IsPartIn, IsPlaceOf, AreInnerWords, ChoiceIsReady, IsWayAt, PartsHold, TakesOneWay, left_of, look_cost}
use Rattle.rb_fetch.specs.inner.Heads.{is_among, leaf_known, shown_heads}
use Rattle.rb_fetch.proofs.Branching.{behind_same, way_piece, whole_adds, whole_grows}
use Rattle.rb_fetch.proofs.Chosen.{ends_open, leaf_found, none_asked, some_asked}
use Rattle.rb_fetch.proofs.Costs.{left_less}
use Rattle.rb_fetch.proofs.Finding.{of_plan}
use Rattle.rb_fetch.proofs.Shown.{told_layout, told_leaf}
use Rattle.rb_fetch.proofs.Ways.{given-more, hold-kept, open-low, open-same, way_within}

-- A part whose leaf is asked for ------------------------------------------------------------------

module _ (agreed : LaidOut) (plan : Plan) (t k : ℕ) (layout : Layout) (leaves : List ℕ) (xs : List Subvalue) (path : List ℕ) (s : ℕ) (words : List ℕ) (n : ℕ) (part : IsPartIn xs path s words)
    (ready : ChoiceIsReady agreed plan t k layout leaves xs n) where
  part_below : AllBelow n words
  part_below = subst (AllBelow n) part.5 (ready.given part.0 part.1 part.2).0

  part_long : length words ≡ words_needed plan (Named s)
  part_long = ap length (sym part.5) ∙ (ready.given part.0 part.1 part.2).1 ∙ ap (words_needed plan) part.4

  part_rep : (v u : Value) → part_at v path ≡ Some u → (clean : Bool) (s1 : List ℕ) (m : Memory) → PartsHold plan clean v s1 m xs → Rep plan m clean (Named s) u (slots_at s1 words)
  part_rep v u at clean s1 m hold =
      let r = hold part.0 part.1 part.2 u (ap (part_at v) part.3 ∙ at) in
      subst (λ ws. Rep plan m clean (Named s) u (slots_at s1 ws)) part.5 (subst (λ ty. Rep plan m clean ty u (slots_at s1 part.1.held.slots)) part.4 r)

  -- a look at the part, and mending it, is paid for
  part_costs : (looked : List (List ℕ)) → IsPlaceOf layout leaves looked path s
      → depth_of plan.layouts (Named s) + (mend_of plan.layouts s + left_of plan.layouts t k (looked ++ path ∷ [])) ≤ left_of plan.layouts t k looked
  part_costs looked place =
      let own = ready.are_leaves place.index place.number place.is_number in
      let same = same_Some own.0 place.leaf (sym own.1 ∙ place.is_leaf) in
      let new : is_among looked place.head.path ≡ false = ap (is_among looked) place.is_path ∙ place.is_new in
      let le = left_less plan.layouts t k layout ready.is_layout place.number own.0 own.1 own.2 place.place place.head (ap (λ (y : Leaf). slice_get (inner_heads y) place.place) same ∙ place.is_head) looked new in
      let cost : look_cost plan.layouts place.head ≡ depth_of plan.layouts (Named s) + mend_of plan.layouts s = ap (λ u. depth_of plan.layouts (Named u) + mend_of plan.layouts u) place.is_type in
      let rest : left_of plan.layouts t k (looked ++ place.head.path ∷ []) ≡ left_of plan.layouts t k (looked ++ path ∷ []) = ap (λ p. left_of plan.layouts t k (looked ++ p ∷ [])) place.is_path in
      omega (arith, le, cost, rest)

-- A look with the code of all leaves behind it ----------------------------------------------------

module _ (agreed : LaidOut) (flat : agreed.layouts ≡ flat_layouts agreed.covered.program) (agrees : Agrees agreed.covered.program) (t : ℕ) (leaves : List ℕ) (seen : Seen) (xs : List Subvalue)
    (path : List ℕ) (s : ℕ) (words : List ℕ) (old e q : Sheet) (holes : List Hole) (starts : List ℕ) (ways : List Way) (count : ℕ) (has : HasLeaves agreed.layouts s count)
    (finds : FindsLeaf agreed s words old e holes) (holes_are : AreHoles (length old.code) (leaf_count agreed s) e.code holes) (one : AreOfOneWay holes)
    (done : BranchesDone agreed t leaves seen xs path s words count e q starts ways) where
  many_holes : AreHoles (length old.code) count e.code holes
  many_holes = subst (λ n. AreHoles (length old.code) n e.code holes) (ap layout_leaf_count has.1 ∙ has.2) holes_are

  abbrev whole : Sheet
  whole = with_targets q holes starts

  pub look_open : Grows old.code e.code → AreOpen (length old.code) whole.code ways
  look_open g =
      open-low (length e.code) (length old.code) whole.code ways g.longer
      (open-same (length e.code) q.code whole.code ways (λ pc lo hi. behind_same old e q count holes starts many_holes done.grows pc lo) done.are_open)

  pub look_grows : Grows old.code e.code → Grows old.code whole.code
  look_grows g = whole_grows old e q count holes starts many_holes done.grows g

  -- the holes may be closed
  pub look_patchable : ArePatchable q.code holes starts
  look_patchable = holes_patchable (length old.code) e q holes starts done.grows (subst (λ n. AreHoles (length old.code) n e.code holes) (sym done.many) many_holes) done.starts_from

  module _ (part : IsPartIn xs path s words) (plan : Plan) (k : ℕ) (layout : Layout) (ready : ChoiceIsReady agreed plan t k layout leaves xs old.slots) (place : IsPlaceOf layout leaves seen.looked path s) where
    abbrev inner : Layout
    inner = has.0

    is_inner : layout_of plan.layouts s ≡ Some has.0
    is_inner = ap (λ ls. layout_of ls s) ready.of.layouts ∙ has.1

    below : AllBelow old.slots words
    below = part_below agreed plan t k layout leaves xs path s words old.slots part ready

    long : length words ≡ words_needed plan (Named s)
    long = part_long agreed plan t k layout leaves xs path s words old.slots part ready

    abbrev most : ℕ
    most = depth_of plan.layouts (Named s)

    choice : Branches plan old.slots old e holes most (λ n s1 m. HasLeaf plan s n (slots_at s1 words) m) (λ n s1 m. Unit {0})
    choice = finds plan ready.of below long

    ready1 : ChoiceIsReady agreed plan t k layout leaves xs e.slots
    ready1 = record { of = ready.of; is_layout = ready.is_layout; are_leaves = ready.are_leaves; given = given-more plan old.slots e.slots xs choice.adds.more ready.given }

    read1 : AreInnerWords plan s has.0 words e.slots
    read1 = record { is_inner = is_inner; below = AllBelow-more old.slots e.slots words choice.adds.more below; count = long }

    stand : BranchesStand agreed plan t k layout leaves seen xs path s has.0 words count e q starts ways
    stand = done.stand plan k layout has.0 ready1 read1

    adds : Adds plan old whole
    adds = whole_adds old e q count holes starts many_holes done.grows plan old.slots most (λ n s1 m. HasLeaf plan s n (slots_at s1 words) m) (λ n s1 m. Unit {0}) choice one stand.adds done.many done.starts_from done.starts_below

    costs : most + (mend_of plan.layouts s + left_of plan.layouts t k (seen.looked ++ path ∷ [])) ≤ left_of plan.layouts t k seen.looked
    costs = part_costs agreed plan t k layout leaves xs path s words old.slots part ready seen.looked place

    module _ (v u : Value) (at : part_at v path ≡ Some u) (l : ℕ) (is_l : leaf_of has.0 u ≡ Some l) (n : ℕ) where
      abbrev Under : Bool → List ℕ → Memory → Type 0
      Under clean s1 m = IsGood m × PartsHold plan clean v s1 m xs × Rep plan m clean (Named s) u (slots_at s1 words)

      rep_of : (clean : Bool) (s1 : List ℕ) (m : Memory) → PartsHold plan clean v s1 m xs → Rep plan m clean (Named s) u (slots_at s1 words)
      rep_of = part_rep agreed plan t k layout leaves xs path s words old.slots part ready v u at

      module _ (br : BranchIn e q (slice_index starts l) ways (λ first last own. ChoosesBelow plan t k layout leaves seen xs path s has.0 words l first last own))
          (tk : TakesOneWay plan br.first br.last br.own v n (mend_of plan.layouts s + left_of plan.layouts t k (seen.looked ++ path ∷ [])) Under) where
        taken : TakesOneWay plan old whole ways v n (left_of plan.layouts t k seen.looked) (λ clean s1 m. IsGood m × PartsHold plan clean v s1 m xs)
        taken =
            let am = br.among tk.number tk.way tk.is_way in
            record {
              number = am.0;
              way = tk.way;
              is_way = am.1;
              is_leaf = tk.is_leaf;
              parts = tk.parts;
              does = λ clean. go clean;
            }
          where
            go : (clean : Bool) → CodePiece plan old.slots old whole (IsWayAt ways) (left_of plan.layouts t k seen.looked) (λ s1 m. IsGood m × PartsHold plan clean v s1 m xs) (λ pc s1 m. (pc ≡ tk.way.pc) × PartsHold plan clean v s1 m tk.way.fields)
            go clean =
                let j = mend_of plan.layouts s + left_of plan.layouts t k (seen.looked ++ path ∷ []) in
                let P : List ℕ → Memory → Type 0 = λ s1 m. IsGood m × PartsHold plan clean v s1 m xs in
                let Exit : ℕ → List ℕ → Memory → Type 0 = λ pc s1 m. (pc ≡ tk.way.pc) × PartsHold plan clean v s1 m tk.way.fields in
                let up : old.slots ≤ br.first.slots = let a = choice.adds.more in let b = br.low in omega (arith, a, b) in
                let arm = piece_weaken plan br.first.slots old.slots br.first br.last (IsWayAt br.own) j j (Under clean) (Under clean) Exit Exit up (omega arith) (λ s1 m y. y) (λ pc s1 m y. y) (tk.does clean) in
                let all = way_piece old e q count holes starts many_holes done.grows plan old.slots most (λ i s1 m. HasLeaf plan s i (slots_at s1 words) m) (λ i s1 m. Unit {0}) choice one stand.adds done.many done.starts_from done.starts_below
                l br.first br.last br.begins br.behind br.longer br.more (IsWayAt ways) (IsWayAt br.own) (λ pc w. (way_within (length e.code) q.code ways pc done.are_open w).0) br.alone j P (Under clean) Exit arm
                (λ s1 m y. (y.0, record { layout = has.0; is_layout = is_inner; clean = clean; value = u; represents = rep_of clean s1 m y.1; is_leaf = is_l }))
                (λ s1 s2 m y keeps mid. let h = hold-kept plan clean v m old.slots s1 s2 xs ready.given keeps y.1 in (y.0, h, rep_of clean s2 m h)) in
                let le = costs in
                piece_weaken plan old.slots old.slots old whole (IsWayAt ways) (most + j) (left_of plan.layouts t k seen.looked) P P Exit Exit (omega arith) le (λ s1 m y. y) (λ pc s1 m y. y) all

  pub look_chooses : IsPartIn xs path s words → ChoosesBy agreed t leaves seen xs path s old whole ways
  look_chooses part plan k layout ready place =
      let st = stand part plan k layout ready place in
      let slots : whole.slots ≡ q.slots = closed_slots q holes starts in
      let same : plan.layouts ≡ flat_layouts plan.program = ready.of.layouts ∙ flat ∙ ap flat_layouts (sym ready.of.program) in
      let ag : Agrees plan.program = subst Agrees (sym ready.of.program) agrees in
      let is_flat : layout_of (flat_layouts plan.program) s ≡ Some has.0 = ap (λ ls. layout_of ls s) (sym same) ∙ is_inner part plan k layout ready place in
      record {
        adds = adds part plan k layout ready place;
        are_ways = subst (λ n. AreWaysOf plan layout n ways) (sym slots) st.are_ways;
        takes = λ v typed parts follows n i en at_n.
            let p = parts part.0 part.1 part.2 in
            let at : part_at v path ≡ Some p.0 = ap (part_at v) (sym part.3) ∙ p.1 in
            let of : is_of_type plan.program.types p.0 (Named s) ≡ true = ap (is_of_type plan.program.types p.0) (sym part.4) ∙ p.2 in
            let f = leaf_found plan.program ag s has.0 is_flat p.0 of in
            let lt : f.number < count = let w = slice_get_within has.0.leaves f.number f.leaf f.is_number in let c = has.2 in omega (arith, w, c) in
            let br = st.each f.number lt in
            taken part plan k layout ready place v p.0 at f.number f.is_leaf n br (br.does.takes v p.0 typed parts follows at of f.is_leaf n i en at_n);
      }

-- The code of the one leaf that is told, without a look -------------------------------------------

module _ (agreed : LaidOut) (typed : IsTyped agreed.covered.program) (flat : agreed.layouts ≡ flat_layouts agreed.covered.program) (agrees : Agrees agreed.covered.program) (t : ℕ) (leaves : List ℕ) (seen : Seen) (xs : List Subvalue)
    (path : List ℕ) (s : ℕ) (words : List ℕ) (l : ℕ) (told : leaf_known agreed.layouts s path (shown_heads seen.known) ≡ Some l) (old new : Sheet) (ways : List Way)
    (under : ChoosesUnder agreed t leaves seen xs path s words l old new ways) where
  pub told_chooses : IsPartIn xs path s words → ChoosesBy agreed t leaves seen xs path s old new ways
  told_chooses part plan k layout ready place =
      let has = told_layout agreed.layouts s path (shown_heads seen.known) l told in
      let is_inner : layout_of plan.layouts s ≡ Some has.0 = ap (λ ls. layout_of ls s) ready.of.layouts ∙ has.1 in
      let sound = of_plan agreed typed flat agrees s plan ready.of in
      let is_flat : layout_of (flat_layouts plan.program) s ≡ Some has.0 = ap (λ ls. layout_of ls s) (sym sound.1.0) ∙ is_inner in
      let law = (lawful plan.program sound.1.1 sound.0).provenances in
      let below = part_below agreed plan t k layout leaves xs path s words old.slots part ready in
      let long = part_long agreed plan t k layout leaves xs path s words old.slots part ready in
      let b = under plan k layout has.0 ready (record { is_inner = is_inner; below = below; count = long }) in
      record {
        adds = b.adds;
        are_ways = b.are_ways;
        takes = λ v is_of parts follows n i en at_n.
            let p = parts part.0 part.1 part.2 in
            let at : part_at v path ≡ Some p.0 = ap (part_at v) (sym part.3) ∙ p.1 in
            let of : is_of_type plan.program.types p.0 (Named s) ≡ true = ap (is_of_type plan.program.types p.0) (sym part.4) ∙ p.2 in
            let f = leaf_found plan.program sound.1.1 s has.0 is_flat p.0 of in
            let same = told_leaf agreed.layouts s path (shown_heads seen.known) l told v p.0 at follows.0 has.0 has.1 f.number f.leaf f.is_leaf f.is_number (law.root s has.0 f.number f.leaf is_flat f.is_number) in
            taken plan k layout ready part place v p.0 at n (b.takes v p.0 is_of parts follows at of (f.is_leaf ∙ ap Some same) n i en at_n);
      }
    where
      taken : (plan : Plan) (k : ℕ) (layout : Layout) (ready : ChoiceIsReady agreed plan t k layout leaves xs old.slots) (part : IsPartIn xs path s words) → IsPlaceOf layout leaves seen.looked path s
          → (v u : Value) → part_at v path ≡ Some u → (n : ℕ)
          → TakesOneWay plan old new ways v n (mend_of plan.layouts s + left_of plan.layouts t k (seen.looked ++ path ∷ [])) (λ clean s1 m. IsGood m × PartsHold plan clean v s1 m xs × Rep plan m clean (Named s) u (slots_at s1 words))
          → TakesOneWay plan old new ways v n (left_of plan.layouts t k seen.looked) (λ clean s1 m. IsGood m × PartsHold plan clean v s1 m xs)
      taken plan k layout ready part place v u at n tk =
          let le = part_costs agreed plan t k layout leaves xs path s words old.slots part ready seen.looked place in
          let most = mend_of plan.layouts s + left_of plan.layouts t k (seen.looked ++ path ∷ []) in
          record {
            number = tk.number;
            way = tk.way;
            is_way = tk.is_way;
            is_leaf = tk.is_leaf;
            parts = tk.parts;
            does = λ clean.
                let Pre : List ℕ → Memory → Type 0 = λ s1 m. IsGood m × PartsHold plan clean v s1 m xs in
                let Under : List ℕ → Memory → Type 0 = λ s1 m. IsGood m × PartsHold plan clean v s1 m xs × Rep plan m clean (Named s) u (slots_at s1 words) in
                let Exit : ℕ → List ℕ → Memory → Type 0 = λ pc s1 m. (pc ≡ tk.way.pc) × PartsHold plan clean v s1 m tk.way.fields in
                piece_weaken plan old.slots old.slots old new (IsWayAt ways) most (left_of plan.layouts t k seen.looked) Under Pre Exit Exit (omega arith) (omega (arith, le))
                (λ s1 m y. (y.0, y.1, part_rep agreed plan t k layout leaves xs path s words old.slots part ready v u at clean s1 m y.1)) (λ pc s1 m y. y) (tk.does clean);
          }

-- What is asked ----------------------------------------------------------------------------------

module _ {E : Type 0} (r : Result (List Way) E) (agreed : LaidOut) (t : ℕ) (leaves : List ℕ) (seen : Seen) (xs : List Subvalue) (old new : Sheet) where
  abbrev IsChosen : List Way → Type 0
  IsChosen ways = AddsWays old new ways (ChoosesFrom agreed t leaves seen xs old new ways)

  module _ (some : 1 ≤ length leaves) where
    -- no place needs a look any more
    pub end_chosen : NeedsNone agreed t (get_or leaves 0 0) seen → IfOk r (AreEndOf agreed t (get_or leaves 0 0) xs old new) → IfOk r IsChosen
    end_chosen none = IfOk-weaker r (AreEndOf agreed t (get_or leaves 0 0) xs old new) IsChosen (λ ways end.
        let o = ends_open agreed t (get_or leaves 0 0) xs old new ways end in
        record { grows = o.1; are_open = o.0; does = none_asked agreed t leaves some seen xs old new ways none end })

    module _ (question : Question) (asks : AsksFor agreed t (get_or leaves 0 0) seen xs question) where
      abbrev By : List Way → Type 0
      By = ChoosesBy agreed t leaves seen xs question.place.path question.place.con.ty old new

      chosen_by : (Does : List Way → Type 0) → ((ways : List Way) → Does ways → By ways) → IfOk r (λ ways. AddsWays old new ways (Does ways)) → IfOk r IsChosen
      chosen_by Does by = IfOk-weaker r (λ ways. AddsWays old new ways (Does ways)) IsChosen (λ ways goes.
          record { grows = goes.grows; are_open = goes.are_open; does = some_asked agreed t leaves some seen xs old new ways question asks (by ways goes.does) })

      -- what is known tells the leaf
      pub told_chosen : (l : ℕ) → question.told ≡ Some l
          → IfOk r (λ ways. AddsWays old new ways (ChoosesUnder agreed t leaves seen xs question.place.path question.place.con.ty question.words l old new ways)) → IfOk r IsChosen
      told_chosen l told =
          chosen_by (ChoosesUnder agreed t leaves seen xs question.place.path question.place.con.ty question.words l old new) (λ ways under.
          told_chooses agreed asks.has.sound.typed asks.has.sound.flat asks.has.sound.agrees t leaves seen xs question.place.path question.place.con.ty question.words l
          (sym asks.is_asked.is_told ∙ told) old new ways under asks.is_asked.is_part)

      -- the code looks
      pub look_chosen : IfOk r (λ ways. AddsWays old new ways (IsPartIn xs question.place.path question.place.con.ty question.words → By ways)) → IfOk r IsChosen
      look_chosen = chosen_by (λ ways. IsPartIn xs question.place.path question.place.con.ty question.words → By ways) (λ ways by. by asks.is_asked.is_part)

module _ (agreed : LaidOut) (t : ℕ) (leaves : List ℕ) (seen : Seen) (xs : List Subvalue) (path : List ℕ) (s : ℕ) (words : List ℕ) (old e q : Sheet) (look : Look) (starts : List ℕ) (ways : List Way)
    (looks : IsLook agreed s words old e look) (done : BranchesDone agreed t leaves seen xs path s words look.count e q starts ways) where
  pub looked_patchable : ArePatchable q.code look.holes starts
  looked_patchable =
      look_patchable agreed looks.sound.flat looks.sound.agrees t leaves seen xs path s words old e q look.holes starts ways look.count looks.has looks.finds looks.are_holes looks.one_way done

  -- the code with the holes of the look closed
  abbrev Looks : Sheet → Type 0
  Looks b = AddsWays old b ways (IsPartIn xs path s words → ChoosesBy agreed t leaves seen xs path s old b ways)

  pub looked_chooses : (closed : Sheet) → closed ≡ with_targets q look.holes starts → Looks closed
  looked_chooses closed is = subst Looks (sym is) (record {
    grows = look_grows agreed looks.sound.flat looks.sound.agrees t leaves seen xs path s words old e q look.holes starts ways look.count looks.has looks.finds looks.are_holes looks.one_way done looks.grows;
    are_open = look_open agreed looks.sound.flat looks.sound.agrees t leaves seen xs path s words old e q look.holes starts ways look.count looks.has looks.finds looks.are_holes looks.one_way done looks.grows;
    does = look_chooses agreed looks.sound.flat looks.sound.agrees t leaves seen xs path s words old e q look.holes starts ways look.count looks.has looks.finds looks.are_holes looks.one_way done;
  })
