-- A shorter body is valid, and so are shorter functions together.
use Rattle.std.proofs.Common.{◌≡◌, ◌≢◌, ℕ, zero, suc, ◌+◌, ◌^◌, ◌<◌, inl, inr, List, [], ◌∷◌, ◌++◌, map, length, take, Option, Some, None, refl, sym, subst, ap, ◌∙◌, arith, length-append, get_or}
use Rattle.std.proofs.lemmas.Option.{slice_get_within, same_Some}
use Rattle.std.proofs.lemmas.List.{get_or_default}
use Rattle.std.proofs.lemmas.List.Elements.{All-head, All-tail, All-cons, All-nil, All-append}
use Rattle.std.specs.Prelude.{◌⊎◌, slice_get, All, Contains}
use Rattle.rb_target.specs.Validity.{IsBounded, CallsFit, FitsCall, IsFine, IsLower, IsValid, IsValidFun}
use Rattle.rb_target.specs.declared.instr.SwitchArm.{SwitchArm}
use Rattle.rb_target.specs.declared.instr.Instr.{Instr}
use Rattle.rb_target.specs.declared.instr.Instr.TheVariants.{Const, Copy, Alu, Take, Put, Load, Store, Place, Jump, Switch, Call, Return}
use Rattle.rb_target.specs.declared.code.CodeFun.{CodeFun}
use Rattle.rb_target.proofs.Growing.{below_or, get-append, get-seam}
use Rattle.rb_trim.specs.declared.fact.Content.{Content}
use Rattle.rb_trim.specs.declared.fact.Content.TheVariants.{Number, Same, Part, Computed, Loaded}
use Rattle.rb_trim.specs.declared.fact.Fact.{Fact}
use Rattle.rb_trim.specs.declared.hints.Hints.{Hints}
use Rattle.rb_trim.specs.Trimming.{HasSameHead, IsTrimOf}
use Rattle.rb_trim.specs.inner.Moving.{tells, NumbersAreApart, IsApart, KeepParams, KeepsParam, AreDests, AreNames, IsDest, IsName, dead_at, facts_at, place, end, moved_arm, IsReached, MakesContent, IsWrite, IsRemade, IsMoved, IsInto, IsFolded, ComesBack, StandsFor, IsSkipped, EndsWell, LivesOn, JumpsOn, IsStep, HaveSameHeads, IsTrimmed}
use Rattle.rb_trim.specs.inner.Stepping.{ComesBackAt, LivesAt, JumpsOnAt, IsKnownOn, Steps, HaveOrigins, Walks, IsRanged, IsFit, AreTrimmed}
use Rattle.rb_trim.proofs.Slots.{same_or}
use Rattle.rb_trim.proofs.Whole.{past, trim_of}

-- Lists of slots

pub dests_push : (h : Hints) (xs ys : List ℕ) (x y : ℕ) → AreDests h xs ys → IsDest h x y → AreDests h (xs ++ x ∷ []) (ys ++ y ∷ [])
dests_push h [] [] x y d e = (e, tt)
dests_push h [] (y' ∷ ys) x y d e = absurd d
dests_push h (x' ∷ xs) [] x y d e = absurd d
dests_push h (x' ∷ xs) (y' ∷ ys) x y d e = (d.0, dests_push h xs ys x y d.1 e)

pub names_push : (h : Hints) (facts : List Fact) (pc : ℕ) (xs ys : List ℕ) (x y : ℕ) → AreNames h facts pc xs ys → IsName h facts pc x y → AreNames h facts pc (xs ++ x ∷ []) (ys ++ y ∷ [])
names_push h facts pc [] [] x y d e = (e, tt)
names_push h facts pc [] (y' ∷ ys) x y d e = absurd d
names_push h facts pc (x' ∷ xs) [] x y d e = absurd d
names_push h facts pc (x' ∷ xs) (y' ∷ ys) x y d e = (d.0, names_push h facts pc xs ys x y d.1 e)

dests_long : (h : Hints) (xs ys : List ℕ) → AreDests h xs ys → length ys ≡ length xs
dests_long h [] [] d = refl
dests_long h [] (y ∷ ys) d = absurd d
dests_long h (x ∷ xs) [] d = absurd d
dests_long h (x ∷ xs) (y ∷ ys) d = ap suc (dests_long h xs ys d.1)

names_long : (h : Hints) (facts : List Fact) (pc : ℕ) (xs ys : List ℕ) → AreNames h facts pc xs ys → length ys ≡ length xs
names_long h facts pc [] [] d = refl
names_long h facts pc [] (y ∷ ys) d = absurd d
names_long h facts pc (x ∷ xs) [] d = absurd d
names_long h facts pc (x ∷ xs) (y ∷ ys) d = ap suc (names_long h facts pc xs ys d.1)

-- Instructions

arms_bounded : (h : Hints) (arms : List SwitchArm) → All (λ (arm : SwitchArm). arm.number < 2 ^ 64) arms → All (λ (arm : SwitchArm). arm.number < 2 ^ 64) (map (λ (arm : SwitchArm). moved_arm h arm) arms)
arms_bounded h [] b = All-nil (λ (arm : SwitchArm). arm.number < 2 ^ 64)
arms_bounded h (arm ∷ arms) b =
    let P : SwitchArm → Type 0 = λ arm. arm.number < 2 ^ 64 in
    All-cons P (moved_arm h arm) (map (λ (arm : SwitchArm). moved_arm h arm) arms) (All-head P arm arms b) (arms_bounded h arms (All-tail P arm arms b))

module _ (h : Hints) (facts : List Fact) (body : List Instr) (pc : ℕ) where
  makes_bounded : (c : Content) (d j : ℕ) (k : Instr) → MakesContent h facts pc c d k → IsRanged k → IsBounded k
  makes_bounded (Number n) d j k m r = let b : n < 2 ^ 64 = subst IsRanged m r in subst IsBounded (sym m) b
  makes_bounded (Same a) d j k m r = subst IsBounded (sym m.1) tt
  makes_bounded (Part a o l) d j k m r = let b : IsRanged (Take d m.0 o l) = subst IsRanged m.1 r in subst IsBounded (sym m.1) b
  makes_bounded (Computed op n a b) d j k m r = let b : IsRanged (Alu op n d m.0 m.1) = subst IsRanged m.2 r in subst IsBounded (sym m.2) b
  makes_bounded (Loaded a offset width) d j k m r = absurd m

  remade_bounded : (i j : Instr) → IsRemade h facts pc i j → IsRanged j → IsBounded j
  remade_bounded i j m r =
      let write : IsWrite h facts pc m.0 j = m.2 in
      makes_bounded m.0.content write.0 0 j write.2 r

  bounded : (i j : Instr) → IsMoved h facts body pc i j → IsBounded i → IsRanged j → IsBounded j
  bounded (Const d c) j m b r = remade_bounded (Const d c) j m r
  bounded (Copy d a) j m b r = remade_bounded (Copy d a) j m r
  bounded (Alu op n d a x) j m b r = remade_bounded (Alu op n d a x) j m r
  bounded (Take d a o l) j m b r = remade_bounded (Take d a o l) j m r
  bounded (Put d a o l) j m b r = elim m [ inl more ↦ remade_bounded (Put d a o l) j more r | inr more ↦ subst IsBounded (sym more.2) b ]
  bounded (Load d a offset width) j m b r = subst IsBounded (sym m.2) b
  bounded (Store a offset width v) j m b r = subst IsBounded (sym m.2) b
  bounded (Place d size align) j m b r = subst IsBounded (sym m.1) b
  bounded (Jump t) j m b r = elim m [ inl e ↦ subst IsBounded (sym e) tt | inr back ↦ subst IsBounded (sym back.3) tt ]
  bounded (Switch a other arms) j m b r = subst IsBounded (sym m.1) (arms_bounded h arms b)
  bounded (Call f ds froms) j m b r = subst IsBounded (sym m.2) tt
  bounded (Return froms) j m b r = subst IsBounded (sym m.1) tt

  call_moved : (o o' : Option CodeFun) (ds froms ds' froms' : List ℕ) → ((f : CodeFun) → o ≡ Some f → (q : CodeFun) × (o' ≡ Some q) × HasSameHead f q) → FitsCall o ds froms → length ds' ≡ length ds → length froms' ≡ length froms → FitsCall o' ds' froms'
  call_moved None o' ds froms ds' froms' heads fits e g = absurd fits
  call_moved (Some f) o' ds froms ds' froms' heads fits e g =
      let q = heads f refl in
      subst (λ (k : Option CodeFun). FitsCall k ds' froms') (sym q.1) (e ∙ fits.0 ∙ sym q.2.results, g ∙ fits.1 ∙ sym q.2.params)

  module _ (funs funs' : List CodeFun) (results results' : ℕ) (heads : HaveSameHeads funs funs') (same : results' ≡ results)
      (old : (at : ℕ) (i : Instr) → slice_get body at ≡ Some i → CallsFit funs results i) where
    makes_calls : (c : Content) (d : ℕ) (k : Instr) → MakesContent h facts pc c d k → CallsFit funs' results' k
    makes_calls (Number n) d k m = subst (CallsFit funs' results') (sym m) tt
    makes_calls (Same a) d k m = subst (CallsFit funs' results') (sym m.1) tt
    makes_calls (Part a o l) d k m = subst (CallsFit funs' results') (sym m.1) tt
    makes_calls (Computed op n a b) d k m = subst (CallsFit funs' results') (sym m.2) tt
    makes_calls (Loaded a offset width) d k m = absurd m

    remade_calls : (i j : Instr) → IsRemade h facts pc i j → CallsFit funs' results' j
    remade_calls i j m = let write : IsWrite h facts pc m.0 j = m.2 in makes_calls m.0.content write.0 j write.2

    calls : (i j : Instr) → IsMoved h facts body pc i j → CallsFit funs results i → CallsFit funs' results' j
    calls (Const d c) j m c1 = remade_calls (Const d c) j m
    calls (Copy d a) j m c1 = remade_calls (Copy d a) j m
    calls (Alu op n d a x) j m c1 = remade_calls (Alu op n d a x) j m
    calls (Take d a o l) j m c1 = remade_calls (Take d a o l) j m
    calls (Put d a o l) j m c1 = elim m [ inl more ↦ remade_calls (Put d a o l) j more | inr more ↦ subst (CallsFit funs' results') (sym more.2) tt ]
    calls (Load d a offset width) j m c1 = subst (CallsFit funs' results') (sym m.2) tt
    calls (Store a offset width v) j m c1 = subst (CallsFit funs' results') (sym m.2) tt
    calls (Place d size align) j m c1 = subst (CallsFit funs' results') (sym m.1) tt
    calls (Jump t) j m c1 = elim m [
      | inl e ↦ subst (CallsFit funs' results') (sym e) tt
      | inr back ↦ subst (CallsFit funs' results') (sym back.3) (names_long h (facts_at h (end h t)) (end h t) back.0 back.1 back.4 ∙ old (end h t) (Return back.0) back.2 ∙ sym same)
    ]
    calls (Switch a other arms) j m c1 = subst (CallsFit funs' results') (sym m.1) tt
    calls (Call f ds froms) j m c1 =
        subst (CallsFit funs' results') (sym m.2)
        (call_moved (slice_get funs f) (slice_get funs' f) ds froms m.0 m.1 (heads f) c1 (dests_long h ds m.0 m.3) (names_long h facts pc froms m.1 m.4))
    calls (Return froms) j m c1 =
        subst (CallsFit funs' results') (sym m.1) (names_long h facts pc froms m.0 m.2 ∙ c1 ∙ sym same)

into_bounded : (h : Hints) (body : List Instr) (pc : ℕ) (i j : Instr) → IsInto h body pc i j → IsBounded i → IsBounded j
into_bounded h body pc i j into b =
    let was : IsBounded (Load into.slot into.base into.offset into.width) = subst IsBounded into.is b in
    subst IsBounded (sym into.stands) was

folded_bounded : (h : Hints) (body : List Instr) (pc : ℕ) (i j : Instr) (fold : IsFolded h body pc i j) → IsBounded i → IsBounded (Switch fold.from fold.other fold.more) → IsBounded j
folded_bounded h body pc i j fold b more =
    let was : IsBounded (Switch fold.slot (Some fold.target) fold.arms) = subst IsBounded fold.is b in
    subst IsBounded (sym fold.stands)
    (All-append (λ (arm : SwitchArm). arm.number < 2 ^ 64) (map (λ (arm : SwitchArm). moved_arm h arm) fold.arms) (map (λ (arm : SwitchArm). moved_arm h arm) fold.more)
    (arms_bounded h fold.arms was) (arms_bounded h fold.more more))

-- The walk

module _ (h : Hints) (body : List Instr) where
  step_stays : (new more : List Instr) (pc : ℕ) (i : Instr) → IsStep h body new pc i → IsStep h body (new ++ more) pc i
  step_stays new more pc i step = record {
    stands = elim step.stands [
      | inl kept ↦ inl (kept.0, get-append new more (place h pc) (slice_get_within new (place h pc) kept.0 kept.1) ∙ kept.1, kept.2)
      | inr out ↦ inr out
    ];
    ends = step.ends;
    known = step.known;
  }

  step_new : (new more : List Instr) (pc : ℕ) (i : Instr) → Steps h body pc i new more → IsStep h body more pc i
  step_new new more pc i steps = record {
    stands = elim steps.stands [
      | inl made ↦ inl (made.instr, ap (λ l. slice_get l (place h pc)) made.more ∙ ap (λ n. slice_get (new ++ made.instr ∷ []) n) made.here ∙ get-seam new made.instr [], made.for)
      | inr out ↦ inr out.0
    ];
    ends = steps.ends;
    known = steps.known;
  }

  step_old : (new more : List Instr) (pc : ℕ) (i : Instr) (at : ℕ) (k : Instr) → Steps h body pc i new more → IsStep h body new at k → IsStep h body more at k
  step_old new more pc i at k steps old =
      elim steps.stands [
        | inl made ↦ subst (λ l. IsStep h body l at k) (sym made.more) (step_stays new (made.instr ∷ []) at k old)
        | inr out ↦ subst (λ l. IsStep h body l at k) (sym out.1) old
      ]

  origin_of : (new : List Instr) (j : Instr) (at : ℕ) (k : Instr) (pc : ℕ) (i : Instr) → HaveOrigins h body new → slice_get body pc ≡ Some i → StandsFor h body pc i j → slice_get (new ++ j ∷ []) at ≡ Some k
      → (pc : ℕ) × (i : Instr) × (slice_get body pc ≡ Some i) × StandsFor h body pc i k
  origin_of new j at k pc i origins is for got =
      elim (below_or at (length new)) [
        | inl lt ↦ origins at k (sym (get-append new (j ∷ []) at lt) ∙ got)
        | inr le ↦
            let lt : at < length (new ++ j ∷ []) = slice_get_within (new ++ j ∷ []) at k got in
            let here : at ≡ length new = omega (arith, le, lt, length-append new (j ∷ [])) in
            let same : j ≡ k = same_Some j k (sym (get-seam new j []) ∙ sym (ap (λ n. slice_get (new ++ j ∷ []) n) here) ∙ got) in
            (pc, i, is, subst (λ (x : Instr). StandsFor h body pc i x) same for)
      ]

  pub step_kept : (pc : ℕ) (i : Instr) (old new : List Instr) (here : ℕ) (j : Instr) → here ≡ place h pc → here ≡ length old
      → new ≡ old ++ j ∷ [] → StandsFor h body pc i j → EndsWell h pc i → IsKnownOn h pc i → Steps h body pc i old new
  step_kept pc i old new here j a b c for ends k = record {
    stands = inl (record { here = sym a ∙ b; instr = j; more = c; for = for });
    ends = ends;
    known = k;
  }

  pub step_out : (pc : ℕ) (i : Instr) (old new : List Instr) → new ≡ old → IsSkipped h pc i → EndsWell h pc i → IsKnownOn h pc i → Steps h body pc i old new
  step_out pc i old new e out ends k = record { stands = inr (out, e); ends = ends; known = k }

  pub walks_none : Walks h body 0 []
  walks_none = record { steps = λ pc i lt is. absurd (omega (arith, lt)); origins = λ at j is. cc }

  pub walks_more : (new more : List Instr) (count : ℕ) (i : Instr) → slice_get body count ≡ Some i → Walks h body count new → Steps h body count i new more → Walks h body (count + 1) more
  walks_more new more count i is walks steps = record {
    steps = λ pc k lt got. elim (below_or pc count) [
      | inl low ↦ step_old new more count i pc k steps (walks.steps pc k low got)
      | inr le ↦
          let here : count ≡ pc = omega (arith, le, lt) in
          let same : i ≡ k = same_Some i k (sym is ∙ ap (λ n. slice_get body n) here ∙ got) in
          subst (λ n. IsStep h body more n k) here (subst (λ (x : Instr). IsStep h body more count x) same (step_new new more count i steps))
    ];
    origins = λ at k got. elim steps.stands [
      | inl made ↦ origin_of new made.instr at k count i walks.origins is made.for (sym (ap (λ l. slice_get l at) made.more) ∙ got)
      | inr out ↦ walks.origins at k (sym (ap (λ l. slice_get l at) out.1) ∙ got)
    ];
  }

-- One function

module _ (f q : CodeFun) (h : Hints) (head : HasSameHead f q) (walks : Walks h f.body (length f.body) q.body) (fit : IsFit q.slots q.params q.body) where
  fine : (funs funs' : List CodeFun) → HaveSameHeads funs funs' → IsValidFun funs f → (at : ℕ) (j : Instr) → slice_get q.body at ≡ Some j → IsFine funs' q at j
  fine funs funs' heads valid at j is =
      let from = walks.origins at j is in
      let old = valid.each from.0 from.1 from.2 in
      let each = (fit.each at (slice_get_within q.body at j is)).at j is in
      record {
        bounded = elim from.3 [
          | inl plain ↦ bounded h (facts_at h from.0) f.body from.0 from.1 j plain.1 old.bounded each.2
          | inr merged ↦ elim merged [
            | inl into ↦ into_bounded h f.body from.0 from.1 j into old.bounded
            | inr more ↦ elim more [
              | inl fold ↦ folded_bounded h f.body from.0 from.1 j fold old.bounded (valid.each (end h fold.target) (Switch fold.from fold.other fold.more) fold.next).bounded
              | inr back ↦ subst IsBounded (sym back.stands) tt
            ]
          ]
        ];
        slots = each.0;
        targets = each.1;
        calls = elim from.3 [
          | inl plain ↦ calls h (facts_at h from.0) f.body from.0 funs funs' f.results q.results heads head.results (λ n k got. (valid.each n k got).calls) from.1 j plain.1 old.calls
          | inr merged ↦ elim merged [
            | inl into ↦ subst (CallsFit funs' q.results) (sym into.stands) tt
            | inr more ↦ elim more [
              | inl fold ↦ subst (CallsFit funs' q.results) (sym fold.stands) tt
              | inr back ↦
                  subst (CallsFit funs' q.results) (sym back.stands)
                  (names_long h (facts_at h (end h back.first)) (end h back.first) back.one.froms back.words back.one.names
                  ∙ (valid.each (end h back.first) (Return back.one.froms) back.one.stands).calls ∙ sym head.results)
            ]
          ]
        ];
      }

  pub trimmed : NumbersAreApart h → KeepParams h f.params → place h 0 ≡ 0 → facts_at h 0 ≡ [] → IsReached h 0 → IsTrimmed f q
  trimmed apart keep begins known reached = record {
    head = head;
    valid = λ funs funs' heads valid. record {
      named = subst IsLower (sym head.name) valid.named;
      params = fit.enough;
      written = fit.written;
      ends = fit.ends;
      each = fine funs funs' heads valid;
      small = (fit.small.0, omega (arith, head.results, valid.small.1), fit.small.1);
    };
    hints = h;
    apart = apart;
    params = keep;
    begins = (begins, known, reached);
    steps = λ pc i is. walks.steps pc i (slice_get_within f.body pc i is) is;
  }

-- The parts of the tests

pub arms_back : (h : Hints) (body : List Instr) (words : List ℕ) (arms : List SwitchArm) → ((k : ℕ) → k < length arms → ComesBackAt h body words arms k) → All (λ (arm : SwitchArm). ComesBack h body words arm.target) arms
arms_back h body words arms each = λ k d lt. (each k lt).at (get_or arms k d) (get_there arms k d lt)
  where
    get_there : (xs : List SwitchArm) (k : ℕ) (d : SwitchArm) → k < length xs → slice_get xs k ≡ Some (get_or xs k d)
    get_there [] k d lt = absurd (omega (arith, lt))
    get_there (x ∷ xs) zero d lt = refl
    get_there (x ∷ xs) (suc k) d lt = get_there xs k d (omega (arith, lt))

pub arms_all : (h : Hints) (pc : ℕ) (i : Instr) (a : ℕ) (arms : List SwitchArm) → ((k : ℕ) → k < length arms → JumpsOnAt h pc i a arms k) → All (λ (arm : SwitchArm). JumpsOn h pc i (tells a arm.number) arm.target) arms
arms_all h pc i a arms each = λ k d lt. (each k lt).at (get_or arms k d) (get_there arms k d lt)
  where
    get_there : (xs : List SwitchArm) (k : ℕ) (d : SwitchArm) → k < length xs → slice_get xs k ≡ Some (get_or xs k d)
    get_there [] k d lt = absurd (omega (arith, lt))
    get_there (x ∷ xs) zero d lt = refl
    get_there (x ∷ xs) (suc k) d lt = get_there xs k d (omega (arith, lt))

-- a number is one of a list, or is not
among : (xs : List ℕ) (k : ℕ) → ((i : ℕ) × (slice_get xs i ≡ Some k)) ⊎ (¬ Contains xs k)
among [] k = inr (λ c. omega (arith, c.1))
among (x ∷ xs) k = elim (same_or x k) [
  | inl e ↦ inl (0, ap Some e)
  | inr ne ↦ elim (among xs k) [
    | inl found ↦ inl (suc found.0, found.1)
    | inr none ↦ inr (λ c. beyond c.0 c.1 c.2 ne none)
  ]
]
  where
    beyond : (i : ℕ) → i < length (x ∷ xs) → get_or (x ∷ xs) i k ≡ k → x ≢ k → ¬ Contains xs k → ⊥
    beyond zero lt is ne none = ne is
    beyond (suc i) lt is ne none = none (i, omega (arith, lt), is)

pub all_live : (h : Hints) (pc : ℕ) (i : Instr) (t : ℕ) (slots : List ℕ) → pc < t → slots ≡ dead_at h pc → ((k : ℕ) → k < length slots → LivesAt h slots i t k) → LivesOn h pc i t
all_live h pc i t slots behind are each = record {
  by = λ k read. elim (among slots k) [
    | inl found ↦ elim ((each found.0 (slice_get_within slots found.0 k found.1)).at k found.1) [
      | inl sets ↦ inr sets
      | inr unread ↦ absurd (unread.by read)
    ]
    | inr none ↦ inl (omega (arith, behind, read.0), subst (λ xs. ¬ Contains xs k) are none)
  ];
}

-- the item of a loop
pub item_is : {A : Type 0} (xs : List A) (k : ℕ) (x : A) → k < length xs → x ≡ get_or xs k x → slice_get xs k ≡ Some x
item_is [] k x lt e = absurd (omega (arith, lt))
item_is (y ∷ xs) zero x lt e = ap Some (sym e)
item_is (y ∷ xs) (suc k) x lt e = item_is xs k x (omega (arith, lt)) e

take_by : {A : Type 0} (xs : List A) (k : ℕ) (x : A) → k < length xs → x ≡ get_or xs k x → take (suc k) xs ≡ take k xs ++ x ∷ []
take_by [] k x lt e = absurd (omega (arith, lt))
take_by (y ∷ xs) zero x lt e = ap (λ z. z ∷ []) (sym e)
take_by (y ∷ xs) (suc k) x lt e = ap (λ zs. y ∷ zs) (take_by xs k x (omega (arith, lt)) e)

pub take_one : {A : Type 0} (xs : List A) (k : ℕ) (x : A) → k < length xs → x ≡ get_or xs k x → take (k + 1) xs ≡ take k xs ++ x ∷ []
take_one xs k x lt e = ap (λ n. take n xs) (add_one k) ∙ take_by xs k x lt e
  where
    add_one : (n : ℕ) → n + 1 ≡ suc n
    add_one n = omega arith

pub dests_more : (h : Hints) (xs new : List ℕ) (k y : ℕ) → k < length xs → AreDests h (take k xs) new → IsDest h (get_or xs k 0) y → AreDests h (take (k + 1) xs) (new ++ y ∷ [])
dests_more h xs new k y lt old is =
    subst (λ ys. AreDests h ys (new ++ y ∷ [])) (sym (take_one xs k (get_or xs k 0) lt (get_or_default xs k 0 (get_or xs k 0) lt)))
    (dests_push h (take k xs) new (get_or xs k 0) y old is)

pub names_more : (h : Hints) (facts : List Fact) (pc : ℕ) (xs new : List ℕ) (k y : ℕ) → k < length xs → AreNames h facts pc (take k xs) new → IsName h facts pc (get_or xs k 0) y → AreNames h facts pc (take (k + 1) xs) (new ++ y ∷ [])
names_more h facts pc xs new k y lt old is =
    subst (λ ys. AreNames h facts pc ys (new ++ y ∷ [])) (sym (take_one xs k (get_or xs k 0) lt (get_or_default xs k 0 (get_or xs k 0) lt)))
    (names_push h facts pc (take k xs) new (get_or xs k 0) y old is)

-- All functions

pub none_trimmed : (funs : List CodeFun) → AreTrimmed funs 0 []
none_trimmed funs = record { long = refl; each = λ g f lt is. absurd (omega (arith, lt)) }

pub more_trimmed : (funs new : List CodeFun) (count : ℕ) (f q : CodeFun) → slice_get funs count ≡ Some f → AreTrimmed funs count new → IsTrimmed f q → AreTrimmed funs (count + 1) (new ++ q ∷ [])
more_trimmed funs new count f q is old t = record {
  long = length-append new (q ∷ []) ∙ ap (λ n. n + 1) old.long;
  each = λ g k lt got. elim (below_or g count) [
    | inl low ↦
        let p = old.each g k low got in
        (p.0, get-append new (q ∷ []) g (omega (arith, low, old.long)) ∙ p.1, p.2)
    | inr le ↦
        let here : count ≡ g = omega (arith, le, lt) in
        let same : f ≡ k = same_Some f k (sym is ∙ ap (λ n. slice_get funs n) here ∙ got) in
        let there : g ≡ length new = sym here ∙ sym old.long in
        (q, ap (λ n. slice_get (new ++ q ∷ []) n) there ∙ get-seam new q [], subst (λ (x : CodeFun). IsTrimmed x q) same t)
  ];
}

module _ (funs new : List CodeFun) (valid : IsValid funs) (all : AreTrimmed funs (length funs) new) where
  pairs : (g : ℕ) (f : CodeFun) → slice_get funs g ≡ Some f → (q : CodeFun) × (slice_get new g ≡ Some q) × IsTrimmed f q
  pairs g f is = all.each g f (slice_get_within funs g f is) is

  heads : HaveSameHeads funs new
  heads g f is = let p = pairs g f is in (p.0, p.1, p.2.head)

  there : (fs : List CodeFun) (k : ℕ) → k < length fs → (f : CodeFun) × (slice_get fs k ≡ Some f)
  there [] k lt = absurd (omega (arith, lt))
  there (f ∷ fs) zero lt = (f, refl)
  there (f ∷ fs) (suc k) lt = there fs k (omega (arith, lt))

  each_valid : (n : ℕ) (q : CodeFun) → slice_get new n ≡ Some q → IsValidFun new q
  each_valid n q at =
      let lt = slice_get_within new n q at in
      let f = there funs n (omega (arith, lt, all.long)) in
      let p = pairs n f.0 f.1 in
      let same : p.0 ≡ q = same_Some p.0 q (sym p.1 ∙ at) in
      subst (λ (k : CodeFun). IsValidFun new k) same (p.2.valid funs new heads (valid.each n f.0 f.1))

  pub all_valid : IsValid new
  all_valid = record { few = omega (arith, all.long, valid.few); each = each_valid }

  pub all_trimmed : IsTrimOf funs new
  all_trimmed = trim_of funs new valid all_valid pairs all.long

-- a slot past the table is not read
pub all_apart : (h : Hints) → ((k : ℕ) → k < length h.reads → IsApart h k) → NumbersAreApart h
all_apart h below k read =
    elim (below_or k (length h.reads)) [
      | inl lt ↦ below k lt read
      | inr le ↦ absurd (omega (arith, read, past h.reads k le))
    ]

pub all_keep : (h : Hints) (params : ℕ) → ((k : ℕ) → k < length h.reads → KeepsParam h params k) → KeepParams h params
all_keep h params below k read =
    elim (below_or k (length h.reads)) [
      | inl lt ↦ below k lt read
      | inr le ↦ absurd (omega (arith, read, past h.reads k le))
    ]
