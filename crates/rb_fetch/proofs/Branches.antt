-- The code of the leaves of a part: below one leaf, one leaf more, and all of them behind the look.
use Rattle.std.proofs.Common.{◌≡◌, ℕ, zero, suc, ◌+◌, ◌<◌, ◌≤◌, ◌⊎◌, inl, inr, length, List, [], ◌∷◌, ◌++◌, map, Bool, true, false, Some, refl, sym, subst, ap, ◌∙◌, arith, length-append, take}
use Rattle.std.specs.Prelude.{slice_get, slice_index, if◌then◌else◌}
use Rattle.std.proofs.lemmas.Option.{same_Some}
use Rattle.std.proofs.lemmas.List.{append_assoc, map-append}
use Rattle.rb_core.specs.declared.value.Value.{Value, out-Value}
use Rattle.rb_core.specs.declared.types.Ty.TheVariants.{Named}
use Rattle.rb_core.specs.declared.types.ConRef.{ConRef}
use Rattle.rb_core.specs.Matching.{matches_of}
use Rattle.rb_layout.specs.Agreement.{Agrees}
use Rattle.rb_core.specs.Values.{is_of_type, part_at}
use Rattle.rb_bytes.specs.Memory.{Memory, IsGood}
use Rattle.rb_target.specs.Growth.{Grows, Nowhere}
use Rattle.rb_target.specs.Meaning.{slots_at}
use Rattle.rb_target.specs.Sheet.{Sheet}
use Rattle.rb_target.proofs.Growing.{Grows-refl, Grows-trans, below_or}
use Rattle.rb_layout.specs.declared.agreed.LaidOut.{LaidOut}
use Rattle.rb_layout.specs.declared.layout.Layout.{Layout}
use Rattle.rb_layout.specs.declared.layout.Leaf.{Leaf}
use Rattle.rb_layout.specs.Flattening.{flat_layouts, same_path}
use Rattle.rb_layout.specs.Positions.{leaf_of, layout_of}
use Rattle.rb_rel.specs.Switches.{HeadAt, choose_of, inner_heads, is_leaf_for, mend_leaf, mend_of}
use Rattle.rb_rel.proofs.Lists.{get-append, get-left, get-right}
use Rattle.rb_fragment.specs.Pieces.{AtEnd, CodePiece}
use Rattle.rb_fragment.specs.Plan.{Plan, Rep}
use Rattle.rb_fragment.specs.Slots.{AllBelow, AllFrom}
use Rattle.rb_fragment.proofs.Adding.{Adds-refl, Adds-trans}
use Rattle.rb_fragment.proofs.Holds.{AllBelow-more}
use Rattle.rb_fragment.proofs.Pieces.{piece_frame, piece_seq, piece_weaken}
use Rattle.rb_compose.specs.declared.subvalue.Subvalue.{Subvalue}
use Rattle.rb_fetch.specs.declared.choice.Way.{Way}
use Rattle.rb_fetch.specs.declared.heads.Place.{Place}
use Rattle.rb_fetch.specs.declared.known.Learnt.{Learnt}
use Rattle.rb_fetch.specs.declared.known.Seen.{Seen}
use Rattle.rb_fetch.specs.inner.Choosing.{AddsWays, AreOpen, BranchIn, BranchesDone, BranchesStand, ChoosesBelow, ChoosesFrom, ChoosesUnder, FetchesFields, Follows, GivesFields, HasAll, HasCon, HasParts, HasRootCon, AreInnerWords, ChoiceIsReady, IsWayAt, IsWayOf, PartsGiven, PartsHold, TakesOneWay, left_of, root_con}
use Rattle.rb_fetch.specs.Finding.{leaf_within}
use Rattle.rb_fetch.specs.inner.Fields.{leaf_at}
use Rattle.rb_fetch.specs.inner.Heads.{bare_paths, head_under, heads_in, is_among, leaves_beside, leaves_that_can_be, shown_head, shown_heads}
use Rattle.rb_fetch.specs.inner.Asking.{IsLearnt}
use Rattle.rb_fetch.specs.inner.Seen.{seen_before, seen_more}
use Rattle.rb_fetch.proofs.FieldParts.{take-left}
use Rattle.rb_fetch.proofs.Chosen.{inner_shows, matched_leaf, rooted}
use Rattle.rb_fetch.proofs.Constructors.{shows}
use Rattle.rb_fetch.proofs.Costs.{among-append, among-left, left_fewer, mend_less, path_same}
use Rattle.rb_fetch.proofs.Shown.{has-append, has-under}
use Rattle.rb_fetch.proofs.Staying.{IsShownAt, bare-of, own_stays, stays-from, stays-of, stays_so}
use Rattle.rb_fetch.proofs.Ways.{given-append, given-more, given_at-more, hold-append, hold-kept, open-append, open-low, parts-append, way-split, way_within}

-- Below one leaf ----------------------------------------------------------------------------------

-- a value that a provenance matches is by the constructor at its root
root_shown : (leaf : Leaf) (k : ℕ) (u : Value) → is_leaf_for k leaf ≡ true → matches_of leaf.prov u ≡ true → root_con (out-Value u) ≡ Some k
root_shown leaf k u is m =
    let r = rooted k leaf.prov is in
    let h = shows leaf.prov u m 0 (record { path = []; con = r.con }) r.is_root in
    ap (λ x. root_con (out-Value x)) (same_Some u h.0 h.1) ∙ h.2 ∙ ap Some r.is_con

module _ (agreed : LaidOut) (flat : agreed.layouts ≡ flat_layouts agreed.covered.program) (agrees : Agrees agreed.covered.program) (t : ℕ) (leaves : List ℕ) (seen : Seen) (xs : List Subvalue) (path : List ℕ) where
  module _ (words : List ℕ) (l : ℕ) (con : ConRef) (root : HasRootCon agreed.layouts con.ty l con.con) (ps : List Place) (below : shown_heads ps ≡ map (head_under path) (heads_in (leaf_at agreed.layouts con.ty l)))
      (a b c : Sheet) (ys : List Subvalue) (ways : List Way) (fetches : FetchesFields agreed path con.ty l words a b xs ys)
      (chooses : ChoosesFrom agreed t (leaves_beside agreed.layouts t (shown_heads ps) (leaves_that_can_be agreed.layouts t path con.con leaves)) (seen_more agreed.covered.program.types seen path ps) ys b c ways)
      (opened : AreOpen (length b.code) c.code ways) where
    abbrev here : HeadAt
    here = record { path = path; con = con }

    -- the constructors of the inner leaf's provenance, where they stand in the whole
    abbrev heads : List HeadAt
    heads = here ∷ shown_heads ps

    abbrev kept : List ℕ
    kept = leaves_beside agreed.layouts t heads leaves

    abbrev bare : List (List ℕ)
    bare = bare_paths agreed.covered.program.types (shown_heads ps)

    abbrev seen1 : Seen
    seen1 = seen_more agreed.covered.program.types seen path ps

    module _ (plan : Plan) (k : ℕ) (layout inner : Layout) (ready : ChoiceIsReady agreed plan t k layout leaves xs a.slots) (read : AreInnerWords plan con.ty inner words a.slots) where
      leaf : Leaf
      leaf = root.0

      is_inner_leaf : slice_get inner.leaves l ≡ Some root.0
      is_inner_leaf = ap (λ o. leaf_within o l) (sym (ap (λ ls. layout_of ls con.ty) (sym ready.of.layouts) ∙ read.is_inner)) ∙ root.1

      there : layout_of agreed.layouts t ≡ Some layout
      there = ap (λ ls. layout_of ls t) (sym ready.of.layouts) ∙ ready.is_layout

      mended : mend_leaf (choose_of plan.layouts) root.0 ≤ mend_of plan.layouts con.ty
      mended =
          let e : plan.layouts ≡ flat_layouts plan.program = ready.of.layouts ∙ flat ∙ ap flat_layouts (sym ready.of.program) in
          let ag : Agrees plan.program = subst Agrees (sym ready.of.program) agrees in
          subst (λ ls. layout_of ls con.ty ≡ Some inner → mend_leaf (choose_of ls) root.0 ≤ mend_of ls con.ty) (sym e)
          (λ is. mend_less plan.program ag con.ty inner is l root.0 is_inner_leaf) read.is_inner

      module _ (f : GivesFields plan path con.ty l inner root.0 words a b xs ys) where
        ready1 : ChoiceIsReady agreed plan t k layout kept ys b.slots
        ready1 = record {
          of = ready.of;
          is_layout = ready.is_layout;
          are_leaves = λ i n e. let r = stays-of agreed.layouts t heads leaves i n e in ready.are_leaves r.0.0 n r.0.1;
          given = subst (PartsGiven plan b.slots) (sym f.more) (given-append plan b.slots xs f.fresh (given-more plan a.slots b.slots xs f.adds.more ready.given) f.given);
        }

        module _ (v u : Value) (parts : HasParts plan.program.types v xs) (follows : Follows layout v leaves seen) (at : part_at v path ≡ Some u) (of : is_of_type plan.program.types u (Named con.ty) ≡ true) (is : leaf_of inner u ≡ Some l) where
          has_con : HasCon v path con.con
          has_con = (u, at, root_shown root.0 con.con u root.2 (matched_leaf inner u l root.0 is is_inner_leaf))

          parts1 : HasParts plan.program.types v ys
          parts1 = subst (HasParts plan.program.types v) (sym f.more) (parts-append plan.program.types v xs f.fresh parts (f.parts v u at of is))

          has_below : HasAll (shown_heads ps) v
          has_below = subst (λ hs. HasAll hs v) (sym (below ∙ ap (λ o. map (head_under path) (heads_in o)) root.1))
              (has-under v u path at (inner_heads root.0) (λ j h e. inner_shows root.0 u (matched_leaf inner u l root.0 is is_inner_leaf) j h e))

          has_heads : HasAll heads v
          has_heads zero h e = subst (λ (x : HeadAt). HasCon v x.path x.con.con) (same_Some here h e) has_con
          has_heads (suc j) h e = has_below j h e

          follows1 : Follows layout v kept seen1
          follows1 = (
            subst (λ hs. HasAll hs v) (sym (map-append shown_head seen.known ps)) (has-append (shown_heads seen.known) (shown_heads ps) v follows.0 has_below),
            λ i n x j h en el eh among. elim (among-append seen.looked (path ∷ bare) h.path among) [
              | inl e ↦ let r = stays-of agreed.layouts t heads leaves i n en in follows.1 r.0.0 n x j h r.0.1 el eh e
              | inr e ↦ stays_so agreed.layouts t layout there heads v has_heads leaves i n x j h en el eh (stands h.path (same_path path h.path) refl e)
            ],
          )
            where
              stands : (q : List ℕ) (y : Bool) → same_path path q ≡ y → (if y then true else is_among bare q) ≡ true → IsShownAt heads q
              stands q true same e = (0, here, refl, path_same path q same)
              stands q false same e = let f = bare-of agreed.covered.program.types (shown_heads ps) q e in (suc f.0, f.1, f.2, f.3)

          still : (n i : ℕ) → leaf_of layout v ≡ Some n → slice_get leaves i ≡ Some n → (j : ℕ) × (slice_get kept j ≡ Some n)
          still n i en at_n =
              let own = ready.are_leaves i n at_n in
              stays-from agreed.layouts t heads leaves i n at_n (own_stays agreed.layouts t layout there heads v has_heads n own.0 en own.1)

          module _ (n : ℕ) (tk : TakesOneWay plan b c ways v n (left_of plan.layouts t k seen1.looked) (λ clean s m. IsGood m × PartsHold plan clean v s m ys)) (clean : Bool) where
            abbrev F : List ℕ → Memory → Type 0
            F s m = IsGood m × PartsHold plan clean v s m xs

            abbrev Here : List ℕ → Memory → Type 0
            Here s m = IsGood m × Rep plan m clean (Named con.ty) u (slots_at s words)

            abbrev Got : List ℕ → Memory → Type 0
            Got s m = PartsHold plan clean v s m f.fresh

            abbrev Mid : List ℕ → Memory → Type 0
            Mid s m = IsGood m × PartsHold plan clean v s m ys

            abbrev Exit : ℕ → List ℕ → Memory → Type 0
            Exit pc s m = (pc ≡ tk.way.pc) × PartsHold plan clean v s m tk.way.fields

            abbrev Pre : List ℕ → Memory → Type 0
            Pre s m = IsGood m × PartsHold plan clean v s m xs × Rep plan m clean (Named con.ty) u (slots_at s words)

            abbrev k1 : ℕ
            k1 = mend_leaf (choose_of plan.layouts) root.0

            abbrev k2 : ℕ
            k2 = left_of plan.layouts t k seen1.looked

            first : CodePiece plan a.slots a b Nowhere k1 Pre (λ pc s m. F s m × AtEnd b Got pc s m)
            first =
                let framed = piece_frame plan a.slots a b Nowhere k1 F Here (AtEnd b Got) (λ s s' m keeps x. (x.0, hold-kept plan clean v m a.slots s s' xs ready.given keeps x.1)) (f.does v u at of is clean) in
                piece_weaken plan a.slots a.slots a b Nowhere k1 k1 (λ s m. F s m × Here s m) Pre (λ pc s m. F s m × AtEnd b Got pc s m) (λ pc s m. F s m × AtEnd b Got pc s m) (omega arith) (omega arith)
                (λ s m x. ((x.0, x.1), (x.0, x.2))) (λ pc s m x. x) framed

            second : CodePiece plan a.slots b c (IsWayAt ways) k2 Mid Exit
            second = piece_weaken plan b.slots a.slots b c (IsWayAt ways) k2 k2 Mid Mid Exit Exit f.adds.more (omega arith) (λ s m x. x) (λ pc s m x. x) (tk.does clean)

            both_pieces : CodePiece plan a.slots a c (λ pc. Nowhere pc ⊎ IsWayAt ways pc) (k1 + k2) Pre Exit
            both_pieces = piece_seq plan a.slots a b c Nowhere (IsWayAt ways) k1 k2 Pre Mid (λ pc s m. F s m × AtEnd b Got pc s m) Exit first second (λ pc x. absurd x)
                (λ pc x. (way_within (length b.code) c.code ways pc opened x).0)
                (λ pc s m x. inl (x.1.0, (x.0.0, subst (PartsHold plan clean v s m) (sym f.more) (hold-append plan clean v m s xs f.fresh x.0.1 x.1.1))))

            one_piece : CodePiece plan a.slots a c (IsWayAt ways) (k1 + k2) Pre Exit
            one_piece = record {
              adds = both_pieces.adds;
              low = both_pieces.low;
              runs = λ final callee next law agrees1 s w long pre.
                  both_pieces.runs final callee next law (record { same = λ pc lo hi out. agrees1.same pc lo hi (λ x. out (inr x)) }) s w long pre;
            }

            goes_under : CodePiece plan a.slots a c (IsWayAt ways) (mend_of plan.layouts con.ty + left_of plan.layouts t k (seen.looked ++ path ∷ [])) Pre Exit
            goes_under =
                let le = mended in
                let few = left_fewer plan.layouts t k (seen.looked ++ path ∷ []) seen1.looked
                (λ p e. subst (λ qs. is_among qs p ≡ true) (append_assoc seen.looked (path ∷ []) bare) (among-left (seen.looked ++ path ∷ []) bare p e)) in
                piece_weaken plan a.slots a.slots a c (IsWayAt ways) (k1 + k2) (mend_of plan.layouts con.ty + left_of plan.layouts t k (seen.looked ++ path ∷ [])) Pre Pre Exit Exit (omega arith) (omega (arith, le, few))
                (λ s m x. x) (λ pc s m x. x) one_piece

    pub chooses_under : ChoosesUnder agreed t leaves seen xs path con.ty words l a c ways
    chooses_under plan k layout inner ready read =
        let f = fetches plan inner root.0 ready.of read (is_inner_leaf plan k layout inner ready read) in
        let ch = chooses plan k layout (ready1 plan k layout inner ready read f) in
        record {
          adds = Adds-trans plan a b c f.adds ch.adds;
          are_ways = ch.are_ways;
          takes = λ v u typed parts follows at of is n i en at_n.
              let st = still plan k layout inner ready read f v u parts follows at of is n i en at_n in
              let tk = ch.takes v typed (parts1 plan k layout inner ready read f v u parts follows at of is) (follows1 plan k layout inner ready read f v u parts follows at of is) n st.0 en st.1 in
              record {
                number = tk.number;
                way = tk.way;
                is_way = tk.is_way;
                is_leaf = tk.is_leaf;
                parts = tk.parts;
                does = λ clean. goes_under plan k layout inner ready read f v u parts follows at of is n tk clean;
              };
        }

-- what the leaf of a part tells, its fields, and a choice among the leaves that are left
module _ (agreed : LaidOut) (t : ℕ) (leaves : List ℕ) (seen : Seen) (xs : List Subvalue) (place : Place) (words : List ℕ) (l : ℕ) (after : Seen) (learnt : Learnt) (is : IsLearnt agreed t leaves place l seen after learnt) where
  pub learnt_chooses : (a b c : Sheet) (ys : List Subvalue) (ways : List Way) → FetchesFields agreed place.path place.con.ty l words a b xs ys → Grows a.code b.code
      → AddsWays b c ways (ChoosesFrom agreed t learnt.kept after ys b c ways) → AddsWays a c ways (ChoosesUnder agreed t leaves seen xs place.path place.con.ty words l a c ways)
  learnt_chooses a b c ys ways fetches grows chosen =
      let kept = leaves_beside agreed.layouts t (shown_heads is.heads) (leaves_that_can_be agreed.layouts t place.path is.root leaves) in
      record {
        grows = Grows-trans a.code b.code c.code grows chosen.grows;
        are_open = open-low (length b.code) (length a.code) c.code ways grows.longer chosen.are_open;
        does = chooses_under agreed is.sound.flat is.sound.agrees t leaves seen xs place.path words l (record { ty = place.con.ty; con = is.root }) is.is_root is.heads is.are_heads a b c ys ways fetches
            (subst (λ (sn : Seen). ChoosesFrom agreed t kept sn ys b c ways) is.is_seen (subst (λ ns. ChoosesFrom agreed t ns after ys b c ways) is.are_kept chosen.does)) chosen.are_open;
      }

  -- and what was known before is known again
  pub learnt_forgotten : seen_before (length seen.looked) (length seen.known) after ≡ seen
  learnt_forgotten =
      ap (λ (sn : Seen). seen_before (length seen.looked) (length seen.known) sn) is.is_seen
      ∙ ap (λ ls. record { looked = ls; known = take (length seen.known) (seen.known ++ is.heads) }) (take-left seen.looked (place.path ∷ bare_paths agreed.covered.program.types (shown_heads is.heads)))
      ∙ ap (λ (ps : List Place). record { looked = seen.looked; known = ps }) (take-left seen.known is.heads)

-- One leaf more -----------------------------------------------------------------------------------

index-append : (ns : List ℕ) (y k : ℕ) → k < length ns → slice_index (ns ++ y ∷ []) k ≡ slice_index ns k
index-append [] y k lt = absurd (omega (arith, lt))
index-append (x ∷ ns) y zero lt = refl
index-append (x ∷ ns) y (suc k) lt = index-append ns y k (omega (arith, lt))

index-last : (ns : List ℕ) (y : ℕ) → slice_index (ns ++ y ∷ []) (length ns) ≡ y
index-last [] y = refl
index-last (x ∷ ns) y = index-last ns y

AllFrom-append : (n : ℕ) (ns : List ℕ) (y : ℕ) → AllFrom n ns → n ≤ y → AllFrom n (ns ++ y ∷ [])
AllFrom-append n [] y all le = (le, tt)
AllFrom-append n (x ∷ ns) y all le = (all.0, AllFrom-append n ns y all.1 le)

AllBelow-append : (n : ℕ) (ns : List ℕ) (y : ℕ) → AllBelow n ns → y < n → AllBelow n (ns ++ y ∷ [])
AllBelow-append n [] y all lt = (lt, tt)
AllBelow-append n (x ∷ ns) y all lt = (all.0, AllBelow-append n ns y all.1 lt)

ways-of-more : (plan : Plan) (layout : Layout) (n m : ℕ) (way : Way) → n ≤ m → IsWayOf plan layout n way → IsWayOf plan layout m way
ways-of-more plan layout n m way le w = (w.0, w.1, given_at-more plan n m _ way.fields le w.2)

module _ (agreed : LaidOut) (t : ℕ) (leaves : List ℕ) (seen : Seen) (xs : List Subvalue) (path : List ℕ) (s : ℕ) (words : List ℕ) where
  abbrev Done : ℕ → Sheet → Sheet → List ℕ → List Way → Type 0
  Done = BranchesDone agreed t leaves seen xs path s words

  pub branches_none : (e : Sheet) → Done 0 e e [] []
  branches_none e = record {
    grows = Grows-refl e.code;
    starts_from = tt;
    starts_below = tt;
    many = refl;
    are_open = tt;
    stand = λ plan k layout inner ready read. record {
      adds = Adds-refl plan e;
      are_ways = λ i way h. absurd cc;
      each = λ l lt. absurd (omega (arith, lt));
    };
  }

  module _ (i : ℕ) (e q d : Sheet) (starts : List ℕ) (ways own : List Way) (done : Done i e q starts ways)
      (goes : AddsWays q d own (ChoosesUnder agreed t leaves seen xs path s words i q d own)) where
    abbrev starts1 : List ℕ
    starts1 = starts ++ length q.code ∷ []

    ready_more : (plan : Plan) (k : ℕ) (layout : Layout) → e.slots ≤ q.slots → ChoiceIsReady agreed plan t k layout leaves xs e.slots → ChoiceIsReady agreed plan t k layout leaves xs q.slots
    ready_more plan k layout le r = record { of = r.of; is_layout = r.is_layout; are_leaves = r.are_leaves; given = given-more plan e.slots q.slots xs le r.given }

    read_more : (plan : Plan) (inner : Layout) → e.slots ≤ q.slots → AreInnerWords plan s inner words e.slots → AreInnerWords plan s inner words q.slots
    read_more plan inner le r = record { is_inner = r.is_inner; below = AllBelow-more e.slots q.slots words le r.below; count = r.count }

    module _ (plan : Plan) (k : ℕ) (layout inner : Layout) (ready : ChoiceIsReady agreed plan t k layout leaves xs e.slots) (read : AreInnerWords plan s inner words e.slots) where
      abbrev Does : ℕ → Sheet → Sheet → List Way → Type 0
      Does l first last ws = ChoosesBelow plan t k layout leaves seen xs path s inner words l first last ws

      old_one : (l : ℕ) → l < i → q.slots ≤ d.slots → BranchIn e q (slice_index starts l) ways (Does l) → BranchIn e d (slice_index starts1 l) (ways ++ own) (Does l)
      old_one l lt le b =
          let few : l < length starts = let m = done.many in omega (arith, lt, m) in
          record {
            first = b.first;
            last = b.last;
            own = b.own;
            begins = index-append starts (length q.code) l few ∙ b.begins;
            behind = b.behind;
            low = b.low;
            longer = Grows-trans b.last.code q.code d.code b.longer goes.grows;
            more = let m = b.more in omega (arith, m, le);
            among = λ j way h. let r = b.among j way h in (r.0, get-left ways own r.0 way r.1);
            alone = λ pc w lo hi. elim (way-split ways own pc w) [
              | inl x ↦ b.alone pc x lo hi
              | inr x ↦ (let r = way_within (length q.code) d.code own pc goes.are_open x in let g = b.longer.longer in absurd (omega (arith, hi, g, r.0)))
            ];
            does = b.does;
          }

      new_one : e.slots ≤ q.slots → BranchIn e d (slice_index starts1 i) (ways ++ own) (Does i)
      new_one le = record {
        first = q;
        last = d;
        own = own;
        begins = ap (λ n. slice_index starts1 n) (sym done.many) ∙ index-last starts (length q.code);
        behind = done.grows.longer;
        low = le;
        longer = Grows-refl d.code;
        more = omega arith;
        among = λ j way h. get-right ways own j way h;
        alone = λ pc w lo hi. elim (way-split ways own pc w) [
          | inl x ↦ (let r = way_within (length e.code) q.code ways pc done.are_open x in absurd (omega (arith, lo, r.1)))
          | inr x ↦ x
        ];
        does = goes.does plan k layout inner (ready_more plan k layout le ready) (read_more plan inner le read);
      }

      stands_more : BranchesStand agreed plan t k layout leaves seen xs path s inner words (i + 1) e d starts1 (ways ++ own)
      stands_more =
          let st = done.stand plan k layout inner ready read in
          let le = st.adds.more in
          let b = goes.does plan k layout inner (ready_more plan k layout le ready) (read_more plan inner le read) in
          let up = b.adds.more in
          record {
            adds = Adds-trans plan e q d st.adds b.adds;
            are_ways = λ j way h. elim (get-append ways own j way h) [ inl x ↦ ways-of-more plan layout q.slots d.slots way up (st.are_ways j way x) | inr x ↦ b.are_ways x.0 way x.1 ];
            each = λ l lt. elim (below_or l i) [
              | inl less ↦ old_one l less up (st.each l less)
              | inr high ↦ (let same : i ≡ l = omega (arith, lt, high) in subst (λ n. BranchIn e d (slice_index starts1 n) (ways ++ own) (Does n)) same (new_one le))
            ];
          }

    pub branches_more : Done (i + 1) e d starts1 (ways ++ own)
    branches_more = record {
      grows = Grows-trans e.code q.code d.code done.grows goes.grows;
      starts_from = AllFrom-append (length e.code) starts (length q.code) done.starts_from done.grows.longer;
      starts_below =
          let g = goes.grows.longer in
          AllBelow-append (length d.code + 1) starts (length q.code) (AllBelow-more (length q.code + 1) (length d.code + 1) starts (omega (arith, g)) done.starts_below) (omega (arith, g));
      many = length-append starts (length q.code ∷ []) ∙ ap (λ n. n + 1) done.many;
      are_open = open-append (length e.code) (length q.code) q.code d.code ways own goes.grows done.grows.longer (omega arith) done.are_open goes.are_open;
      stand = λ plan k layout inner ready read. stands_more plan k layout inner ready read;
    }
