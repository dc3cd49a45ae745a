-- What a search in one column says of the patterns.
use Rattle.std.proofs.Common.{◌≡◌, ◌<◌, ℕ, zero, suc, List, [], ◌∷◌, ◌++◌, length, take, Bool, true, false, ◌&&◌, ◌||◌, not, Option, Some, None, refl, sym, ap, ◌∙◌, arith, subst}
use Rattle.std.specs.Prelude.{slice_get, is_some, IsSome, if◌then◌else◌}
use Rattle.std.specs.Bool.{OnTrue}
use Rattle.std.proofs.Math.Bool.{and-true}
use Rattle.std.proofs.lemmas.Bool.{false≢true}
use Rattle.std.proofs.lemmas.List.{length-append}
use Rattle.std.proofs.lemmas.Option.{slice_get_within}
use Rattle.rb_core.specs.declared.value.Value.{Value}
use Rattle.rb_core.specs.declared.types.DataDecl.{DataDecl}
use Rattle.rb_core.specs.declared.types.Ty.{Ty}
use Rattle.rb_core.specs.declared.pattern.Pat.{Pat}
use Rattle.rb_core.specs.Matching.{matches_of, next_clause, chosen_clause, IsExhaustive, IsUnreached}
use Rattle.rb_core.specs.Values.{is_of_type}
use Rattle.rb_matrix.specs.Rows.{row_matches, any_row, all_rows}
use Rattle.rb_matrix.specs.Search.{is_plain, useful_by, RowIsFound, AreUseless, IsSearchAnswer}
use Rattle.rb_matrix.specs.inner.Against.{Covers, IsCovered, StandFor}
use Rattle.rb_matrix.specs.inner.OneColumn.{one_each, any_matches, IsReachAnswer, IsOneAnswer, IsUseful, IsUseless, IsUseAnswer, IsEnd}
use Rattle.rb_matrix.specs.Exhaust.{IsMissing, IsReached, both_match, IsCommon}
use Rattle.rb_matrix.proofs.Laws.{or-false-left, or-false-right}
use Rattle.rb_matrix.proofs.Vectors.{and-left, and-right, plain-length}

-- The chosen clause ------------------------------------------------------------------------------

chosen-miss : (p : Pat) (ps : List Pat) (v : Value) → matches_of p v ≡ false → chosen_clause (p ∷ ps) v ≡ next_clause (chosen_clause ps v)
chosen-miss p ps v e = ap (λ b. if b then Some 0 else next_clause (chosen_clause ps v)) e

chosen-hit : (p : Pat) (ps : List Pat) (v : Value) → matches_of p v ≡ true → chosen_clause (p ∷ ps) v ≡ Some 0
chosen-hit p ps v e = ap (λ b. if b then Some 0 else next_clause (chosen_clause ps v)) e

pub chosen-none : (ps : List Pat) (v : Value) → any_matches ps v ≡ false → chosen_clause ps v ≡ None
chosen-none [] v e = refl
chosen-none (p ∷ ps) v e = chosen-miss p ps v (or-false-left _ (any_matches ps v) e) ∙ ap next_clause (chosen-none ps v (or-false-right (matches_of p v) _ e))

next-some : (o : Option ℕ) → IsSome o → IsSome (next_clause o)
next-some None h = h
next-some (Some i) h = h

pub chosen-some : (ps : List Pat) (v : Value) → any_matches ps v ≡ true → IsSome (chosen_clause ps v)
chosen-some [] v e = absurd (false≢true e)
chosen-some (p ∷ ps) v e = by (matches_of p v) refl e (λ h. chosen-some ps v h)
  where
    by : (b : Bool) → matches_of p v ≡ b → (b || any_matches ps v) ≡ true → (any_matches ps v ≡ true → IsSome (chosen_clause ps v)) → IsSome (chosen_clause (p ∷ ps) v)
    by true f h rest = subst IsSome (sym (chosen-hit p ps v f)) refl
    by false f h rest = subst IsSome (sym (chosen-miss p ps v f)) (next-some (chosen_clause ps v) (rest h))

-- a pattern that matches, with none before it that does, is chosen
pub first-chosen : (ps : List Pat) (i : ℕ) (p : Pat) (v : Value) → slice_get ps i ≡ Some p → matches_of p v ≡ true → any_matches (take i ps) v ≡ false → chosen_clause ps v ≡ Some i
first-chosen [] i p v at hit none = absurd (omega (arith, slice_get_within [] i p at))
first-chosen (q ∷ ps) zero p v at hit none = chosen-hit q ps v (ap (λ r. matches_of r v) same ∙ hit)
  where
    same : q ≡ p
    same = cc
first-chosen (q ∷ ps) (suc i) p v at hit none =
    chosen-miss q ps v (or-false-left _ (any_matches (take i ps) v) none)
    ∙ ap next_clause (first-chosen ps i p v at hit (or-false-right (matches_of q v) _ none))

next-is : (o : Option ℕ) (i : ℕ) → next_clause o ≡ Some i → (j : ℕ) × (o ≡ Some j) × (i ≡ suc j)
next-is None i e = absurd cc
next-is (Some j) i e = (j, refl, cc)

-- and what is chosen is such a pattern
pub chosen-first : (ps : List Pat) (i : ℕ) (p : Pat) (v : Value) → slice_get ps i ≡ Some p → chosen_clause ps v ≡ Some i → (matches_of p v && not (any_matches (take i ps) v)) ≡ true
chosen-first [] i p v at e = absurd cc
chosen-first (q ∷ ps) i p v at e = by (matches_of q v) refl (λ j k f. chosen-first ps j p v k f)
  where
    here : (i : ℕ) → slice_get (q ∷ ps) i ≡ Some p → i ≡ 0 → q ≡ p
    here zero at e = cc
    here (suc i) at e = absurd (omega (arith, e))

    there : (i j : ℕ) → slice_get (q ∷ ps) i ≡ Some p → i ≡ suc j → slice_get ps j ≡ Some p
    there i j at e = subst (λ k. slice_get (q ∷ ps) k ≡ Some p) e at

    by : (b : Bool) → matches_of q v ≡ b → ((j : ℕ) → slice_get ps j ≡ Some p → chosen_clause ps v ≡ Some j → (matches_of p v && not (any_matches (take j ps) v)) ≡ true) → (matches_of p v && not (any_matches (take i (q ∷ ps)) v)) ≡ true
    by true f rest =
        let first : i ≡ 0 = (let same : Some i ≡ Some 0 = sym e ∙ chosen-hit q ps v f in cc) in
        ap (λ k. matches_of p v && not (any_matches (take k (q ∷ ps)) v)) first ∙ ap (λ b. b && true) (ap (λ r. matches_of r v) (sym (here i at first)) ∙ f)
    by false f rest =
        let n = next-is (chosen_clause ps v) i (sym (chosen-miss q ps v f) ∙ e) in
        ap (λ k. matches_of p v && not (any_matches (take k (q ∷ ps)) v)) n.2
        ∙ ap (λ b. matches_of p v && not (b || any_matches (take n.0 ps) v)) f
        ∙ rest n.0 (there i n.0 at n.2) n.1

-- Rows of one pattern ----------------------------------------------------------------------------

pub one_each-any : (ps : List Pat) (v : Value) → any_row (one_each ps) (v ∷ []) ≡ any_matches ps v
one_each-any [] v = refl
one_each-any (p ∷ ps) v = ap (λ b. b || any_row (one_each ps) (v ∷ [])) (and-true (matches_of p v)) ∙ ap (λ b. matches_of p v || b) (one_each-any ps v)

not-true : (b : Bool) → not b ≡ true → b ≡ false
not-true true h = sym h
not-true false h = refl

must : (a b : Bool) → ((a && true) && (true && not b)) ≡ false → a ≡ true → b ≡ true
must true true h e = refl
must true false h e = absurd (false≢true (sym h))
must false b h e = absurd (false≢true e)

no-init : (init : List Pat) (q : Pat) → length (init ++ q ∷ []) ≡ 1 → init ≡ []
no-init [] q e = refl
no-init (p ∷ ps) q e = absurd (omega (arith, e, length-append (p ∷ ps) (q ∷ [])))

module _ (types : List DataDecl) (ty : Ty) where
  -- the one pattern of a row that was found
  pub found-one : (wanted unwanted : List (List Pat)) (found : Option (List Pat)) → IsSearchAnswer types (ty ∷ []) wanted unwanted found
      → (row init : List Pat) (q : Pat) → found ≡ Some row → row ≡ init ++ q ∷ [] → RowIsFound types (ty ∷ []) wanted unwanted (q ∷ [])
  found-one wanted unwanted found h row init q e f =
      let r : RowIsFound types (ty ∷ []) wanted unwanted (init ++ q ∷ []) = subst (RowIsFound types (ty ∷ []) wanted unwanted) f (subst (IsSearchAnswer types (ty ∷ []) wanted unwanted) e h) in
      subst (λ l. RowIsFound types (ty ∷ []) wanted unwanted (l ++ q ∷ [])) (no-init init q (plain-length types (ty ∷ []) (init ++ q ∷ []) r.plain)) r

  -- there is one
  pub found-some : (wanted unwanted : List (List Pat)) (found : Option (List Pat)) → IsSearchAnswer types (ty ∷ []) wanted unwanted found
      → (row : List Pat) → found ≡ Some row → row ≡ [] → ⊥
  found-some wanted unwanted found h row e f =
      let r : RowIsFound types (ty ∷ []) wanted unwanted [] = subst (RowIsFound types (ty ∷ []) wanted unwanted) f (subst (IsSearchAnswer types (ty ∷ []) wanted unwanted) e h) in
      let l = plain-length types (ty ∷ []) [] r.plain in absurd (omega (arith, l))

  -- The value of a row of one pattern
  module _ (wanted unwanted : List (List Pat)) (q : Pat) (r : RowIsFound types (ty ∷ []) wanted unwanted (q ∷ [])) where
    value-of : (vs : List Value) → row_matches (q ∷ []) vs ≡ true → useful_by types (ty ∷ []) wanted unwanted vs ≡ true
        → (v : Value) × (is_of_type types v ty ≡ true) × (matches_of q v ≡ true) × ((all_rows wanted (v ∷ []) && not (any_row unwanted (v ∷ []))) ≡ true)
    value-of [] m f = absurd (false≢true m)
    value-of (v ∷ w ∷ vs) m f = absurd (false≢true (and-right (matches_of q v) false m))
    value-of (v ∷ []) m f = (
      v,
      and-left (is_of_type types v ty) true (and-left (is_of_type types v ty && true) (all_rows wanted (v ∷ []) && not (any_row unwanted (v ∷ []))) f),
      and-left (matches_of q v) true m,
      and-right (is_of_type types v ty && true) (all_rows wanted (v ∷ []) && not (any_row unwanted (v ∷ []))) f,
    )

    pub value : (v : Value) × (is_of_type types v ty ≡ true) × (matches_of q v ≡ true) × ((all_rows wanted (v ∷ []) && not (any_row unwanted (v ∷ []))) ≡ true)
    value = value-of r.value r.matched r.found

    pub each : (v : Value) → is_of_type types v ty ≡ true → matches_of q v ≡ true → (all_rows wanted (v ∷ []) && not (any_row unwanted (v ∷ []))) ≡ true
    each v of m = and-right (is_of_type types v ty && true) (all_rows wanted (v ∷ []) && not (any_row unwanted (v ∷ []))) (r.all (v ∷ []) (and-true (is_of_type types v ty) ∙ of) (and-true (matches_of q v) ∙ m))

    pub one-plain : is_plain types q ty ≡ true
    one-plain = sym (and-true (is_plain types q ty)) ∙ r.plain

  -- nothing is missing
  pub all-chosen : (ps : List Pat) → AreUseless types (ty ∷ []) [] (one_each ps) → IsExhaustive types ty ps
  all-chosen ps h v of = chosen-some ps v (sym (one_each-any ps v) ∙ must (is_of_type types v ty) (any_row (one_each ps) (v ∷ [])) (h (v ∷ [])) of)

  pub is-missing : (ps : List Pat) (q : Pat) → RowIsFound types (ty ∷ []) [] (one_each ps) (q ∷ []) → IsMissing types ty ps q
  is-missing ps q r = let v = value [] (one_each ps) q r in record {
    plain = one-plain [] (one_each ps) q r;
    value = v.0;
    typed = v.1;
    matched = v.2;
    none = λ w of m. chosen-none ps w (sym (one_each-any ps w) ∙ not-true _ (each [] (one_each ps) q r w of m));
  }

  -- One wanted pattern, and others -------------------------------------------------------

  module _ (ps : List Pat) (q : Pat) (U : List (List Pat)) (stand : StandFor q ps U) where
    abbrev W : List (List Pat)
    W = (q ∷ []) ∷ []

    same-none : (a b c : Bool) → (a ≡ true → b ≡ c) → (a && not b) ≡ (a && not c)
    same-none true b c h = ap not (h refl)
    same-none false b c h = refl

    as-first : (v : Value) → (all_rows W (v ∷ []) && not (any_row U (v ∷ []))) ≡ (matches_of q v && not (any_matches ps v))
    as-first v = ap (λ b. (b && true) && not (any_row U (v ∷ []))) (and-true (matches_of q v)) ∙ ap (λ b. b && not (any_row U (v ∷ []))) (and-true (matches_of q v))
        ∙ same-none (matches_of q v) (any_row U (v ∷ [])) (any_matches ps v) (stand v)

    must-any : (a b c d : Bool) → ((a && true) && d) ≡ false → d ≡ (b && not c) → a ≡ true → b ≡ true → c ≡ true
    must-any a b true d h e f g = refl
    must-any true true false d h e f g = absurd (false≢true (sym h ∙ e))
    must-any false b false d h e f g = absurd (false≢true f)
    must-any true false false d h e f g = absurd (false≢true g)

    use-useless : AreUseless types (ty ∷ []) W U → IsUseless types ty ps q
    use-useless h v of m = must-any (is_of_type types v ty) (matches_of q v) (any_matches ps v) (all_rows W (v ∷ []) && not (any_row U (v ∷ []))) (h (v ∷ [])) (as-first v) of m

    use-useful : (r : Pat) → RowIsFound types (ty ∷ []) W U (r ∷ []) → IsUseful types ty ps q
    use-useful r f = let v = value W U r f in let h = sym (as-first v.0) ∙ v.3 in record {
      value = v.0;
      typed = v.1;
      matched = and-left (matches_of q v.0) (not (any_matches ps v.0)) h;
      none = not-true _ (and-right (matches_of q v.0) (not (any_matches ps v.0)) h);
    }

    pub use-answer : (found : Option Pat) → IsOneAnswer types ty W U found → IsUseAnswer types ty ps q (is_some found)
    use-answer None h = use-useless h
    use-answer (Some r) f = use-useful r f

  -- of a pattern that another covers
  pub useful-covered : (ps : List Pat) (p q : Pat) → Covers p q → (b : Bool) → IsUseAnswer types ty ps q b → OnTrue b (IsUseful types ty ps p)
  useful-covered ps p q h true u = record { value = u.value; typed = u.typed; matched = h u.value u.matched; none = u.none }
  useful-covered ps p q h false u = tt

  -- of one pattern behind those before it
  module _ (ps : List Pat) (i : ℕ) (p : Pat) (at : slice_get ps i ≡ Some p) where
    pub useful-reached : IsUseful types ty (take i ps) p → IsReached types ty ps i
    useful-reached u = record {
      value = u.value;
      typed = u.typed;
      chosen = first-chosen ps i p u.value at u.matched u.none;
    }

    useless-unreached : IsUseless types ty (take i ps) p → IsUnreached types ty ps i
    useless-unreached h v of e =
        let hit = chosen-first ps i p v at e in
        let any = h v of (and-left (matches_of p v) (not (any_matches (take i ps) v)) hit) in
        absurd (false≢true (sym (not-true _ (and-right (matches_of p v) (not (any_matches (take i ps) v)) hit)) ∙ any))

    pub covered-unreached : IsCovered p (take i ps) → IsUnreached types ty ps i
    covered-unreached h = useless-unreached (λ v of m. h v m)

    pub reach-answer : (b : Bool) → IsUseAnswer types ty (take i ps) p b → IsReachAnswer types ty ps i b
    reach-answer true u = useful-reached u
    reach-answer false h = useless-unreached h

  -- The end of what is reached --------------------------------------------------------------------

  chosen-below : (n : ℕ) (ps : List Pat) (v : Value) (i : ℕ) → any_matches (take n ps) v ≡ true → chosen_clause ps v ≡ Some i → i < n
  chosen-below zero ps v i any e = absurd (false≢true any)
  chosen-below (suc n) [] v i any e = absurd (false≢true any)
  chosen-below (suc n) (p ∷ ps) v i any e = by (matches_of p v) refl any (λ j h f. chosen-below n ps v j h f)
    where
      by : (b : Bool) → matches_of p v ≡ b → (b || any_matches (take n ps) v) ≡ true
          → ((j : ℕ) → any_matches (take n ps) v ≡ true → chosen_clause ps v ≡ Some j → j < n) → i < suc n
      by true f h rest = let same : Some 0 ≡ Some i = sym (chosen-hit p ps v f) ∙ e in let first : 0 ≡ i = cc in omega (arith, first)
      by false f h rest =
          let next = next-is (chosen_clause ps v) i (sym (chosen-miss p ps v f) ∙ e) in
          let low = rest next.0 h next.1 in let is = next.2 in omega (arith, low, is)

  chosen-within : (ps : List Pat) (v : Value) (i : ℕ) → chosen_clause ps v ≡ Some i → i < length ps
  chosen-within [] v i e = absurd cc
  chosen-within (p ∷ ps) v i e = by (matches_of p v) refl (λ j f. chosen-within ps v j f)
    where
      by : (b : Bool) → matches_of p v ≡ b → ((j : ℕ) → chosen_clause ps v ≡ Some j → j < length ps) → i < suc (length ps)
      by true f rest = let same : Some 0 ≡ Some i = sym (chosen-hit p ps v f) ∙ e in let first : 0 ≡ i = cc in omega (arith, first)
      by false f rest =
          let next = next-is (chosen_clause ps v) i (sym (chosen-miss p ps v f) ∙ e) in
          let low = rest next.0 next.1 in let is = next.2 in omega (arith, low, is)

  pub end-all : (ps : List Pat) → IsEnd types ty ps (length ps)
  end-all ps i le v of e = let lt = chosen-within ps v i e in omega (arith, lt, le)

  pub end-useless : (ps : List Pat) (n : ℕ) → AreUseless types (ty ∷ []) [] (one_each (take n ps)) → IsEnd types ty ps n
  end-useless ps n h i le v of e =
      let any = sym (one_each-any (take n ps) v) ∙ must (is_of_type types v ty) (any_row (one_each (take n ps)) (v ∷ [])) (h (v ∷ [])) of in
      let lt = chosen-below n ps v i any e in omega (arith, lt, le)

  -- Two wanted patterns ----------------------------------------------------------------------------

  module _ (p q : Pat) where
    abbrev P : List (List Pat)
    P = (p ∷ []) ∷ (q ∷ []) ∷ []

    as-both : (v : Value) → (all_rows P (v ∷ []) && true) ≡ both_match p q v
    as-both v = and-true (all_rows P (v ∷ [])) ∙ ap (λ b. b && (row_matches (q ∷ []) (v ∷ []) && true)) (and-true (matches_of p v))
        ∙ ap (λ b. matches_of p v && b) (and-true (row_matches (q ∷ []) (v ∷ [])) ∙ and-true (matches_of q v))

    no-both : (a b : Bool) → ((a && true) && b) ≡ false → a ≡ true → b ≡ false
    no-both true b h e = h
    no-both false b h e = absurd (false≢true e)

    pub none-common : AreUseless types (ty ∷ []) P [] → (v : Value) → is_of_type types v ty ≡ true → both_match p q v ≡ false
    none-common h v of = sym (as-both v) ∙ no-both (is_of_type types v ty) (all_rows P (v ∷ []) && true) (h (v ∷ [])) of

    pub is-common : (r : Pat) → RowIsFound types (ty ∷ []) P [] (r ∷ []) → IsCommon types ty p q r
    is-common r f = let v = value P [] r f in record {
      plain = one-plain P [] r f;
      value = v.0;
      typed = v.1;
      matched = v.2;
      all = λ w of m. sym (as-both w) ∙ each P [] r f w of m;
    }
