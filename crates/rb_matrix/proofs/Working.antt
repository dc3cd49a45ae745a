-- The list of what is left of a search.
use Rattle.std.proofs.Common.{◌≡◌, ◌+◌, ◌<◌, List, [], ◌∷◌, ◌++◌, length, Bool, true, false, ◌&&◌, not, refl, sym, ap, ◌∙◌, arith, subst, Vec, Global, Result}
use Rattle.std.specs.Prelude.{IfOk}
use Rattle.std.proofs.lemmas.Bool.{false≢true}
use Rattle.std.proofs.lemmas.Result.{IfOk-weaker}
use Rattle.rb_core.specs.declared.value.Value.{Value}
use Rattle.rb_core.specs.declared.types.DataDecl.{DataDecl}
use Rattle.rb_core.specs.declared.types.Ty.{Ty}
use Rattle.rb_core.specs.declared.pattern.Pat.{Pat}
use Rattle.rb_matrix.specs.declared.problem.Step.{Step}
use Rattle.rb_matrix.specs.declared.problem.Problem.{Problem}
use Rattle.rb_matrix.specs.declared.problem.Left.{Left}
use Rattle.rb_matrix.specs.declared.problem.Left.TheVariants.{Whole, ByHead}
use Rattle.rb_matrix.specs.Rows.{row_matches, any_row, all_rows, vector_of}
use Rattle.rb_matrix.specs.Search.{AreTypesIn, useful_by, RowIsFound, AreUseless}
use Rattle.rb_matrix.specs.inner.Problems.{with_column, row_for_parent, row_for_root, FoundIn, IsPart}
use Rattle.rb_matrix.specs.inner.Left.{NoneOf, AllNone, left_cost, costs, LeadsTo, IsWithin, AreWithin, IsWorking, IsSplit}
use Rattle.rb_matrix.proofs.Weights.{some-cost}

some-left : (types : List DataDecl) (l : Left) → 0 < left_cost types l
some-left types (Whole p) = some-cost types p
some-left types (ByHead b) = omega arith

-- nothing is left in place of what has no vector
pub no-split : (types : List DataDecl) (l : Left) (ls : List Left) → ls ≡ [] → NoneOf types l → IsSplit types l ls
no-split types l ls e none = subst (IsSplit types l) (sym e) (record { none = λ all. none; within = λ root w. tt; fewer = some-left types l })

-- what is left is a list that answers for what was left
pub split-made : {E : Type 0} (types : List DataDecl) (l : Left) (ls : List Left) (r : Result (Vec Left Global) E) → IfOk r (λ v. v.items ≡ ls) → IsSplit types l ls
    → IfOk r (λ v. IsSplit types l v.items)
split-made types l ls r made split = IfOk-weaker r (λ v. v.items ≡ ls) (λ v. IsSplit types l v.items) (λ v e. subst (IsSplit types l) (sym e) split) made

-- the last step first
pub row_for_root-append : (ss : List Step) (s : Step) (row : List Pat) → row_for_root (ss ++ s ∷ []) row ≡ row_for_root ss (row_for_parent s row)
row_for_root-append [] s row = refl
row_for_root-append (t ∷ ss) s row = ap (row_for_parent t) (row_for_root-append ss s row)

-- a part leads to the root by its parent
pub part-within : (types : List DataDecl) (root p c : Problem) → IsPart types p c → LeadsTo types root p → IsWithin types root (Whole c)
part-within types root p c part sound = record {
  ready = part.live;
  sound = λ row r.
      let way : row_for_root c.steps row ≡ row_for_root p.steps (row_for_parent part.step row) = ap (λ ss. row_for_root ss row) part.steps ∙ row_for_root-append p.steps part.step row in
      subst (FoundIn types root) (sym way) (sound (row_for_parent part.step row) (part.sound row r));
}

-- Where no column is left --------------------------------------------------------------------------

-- a problem without columns that its rows do not solve
empty-wanted : (types : List DataDecl) (tys : List Ty) (wanted unwanted : List (List Pat)) → length tys < 1 → all_rows wanted [] ≡ false → AreUseless types tys wanted unwanted
empty-wanted types [] wanted unwanted lt e [] = ap (λ b. b && not (any_row unwanted [])) e
empty-wanted types [] wanted unwanted lt e (v ∷ vs) = refl
empty-wanted types (t ∷ ts) wanted unwanted lt e vs = absurd (omega (arith, lt))

off : (b : Bool) → (b && false) ≡ false
off true = refl
off false = refl

empty-unwanted : (types : List DataDecl) (tys : List Ty) (wanted unwanted : List (List Pat)) → length tys < 1 → any_row unwanted [] ≡ true → AreUseless types tys wanted unwanted
empty-unwanted types [] wanted unwanted lt e [] = ap (λ b. all_rows wanted [] && not b) e ∙ off (all_rows wanted [])
empty-unwanted types [] wanted unwanted lt e (v ∷ vs) = refl
empty-unwanted types (t ∷ ts) wanted unwanted lt e vs = absurd (omega (arith, lt))

pub lost-wanted : (types : List DataDecl) (p : Problem) (ls : List Left) → ls ≡ [] → length p.tys < 1 → all_rows p.wanted [] ≡ false → IsSplit types (Whole p) ls
lost-wanted types p ls e lt off = no-split types (Whole p) ls e (empty-wanted types p.tys p.wanted p.unwanted lt off)

pub lost-unwanted : (types : List DataDecl) (p : Problem) (ls : List Left) → ls ≡ [] → length p.tys < 1 → any_row p.unwanted [] ≡ true → IsSplit types (Whole p) ls
lost-unwanted types p ls e lt on = no-split types (Whole p) ls e (empty-unwanted types p.tys p.wanted p.unwanted lt on)

-- a problem without columns that its rows solve
pub solved : (types : List DataDecl) (tys : List Ty) (wanted unwanted : List (List Pat)) → tys ≡ [] → all_rows wanted [] ≡ true → any_row unwanted [] ≡ false → RowIsFound types tys wanted unwanted []
solved types tys wanted unwanted e all none = subst (λ l. RowIsFound types l wanted unwanted []) (sym e) (record {
  plain = refl;
  value = [];
  matched = refl;
  found = found;
  all = found-all;
})
  where
    found : useful_by types [] wanted unwanted [] ≡ true
    found = ap (λ b. b && not (any_row unwanted [])) all ∙ ap not none

    found-all : (vs : List Value) → vector_of types [] vs ≡ true → row_matches [] vs ≡ true → useful_by types [] wanted unwanted vs ≡ true
    found-all [] of matched = found
    found-all (v ∷ vs) of matched = absurd (false≢true of)

-- what is left of a problem, where its first column's type was taken off
pub split-column : (types : List DataDecl) (p : Problem) (ty : Ty) (ts : List Ty) (ls : List Left) → p.tys ≡ ty ∷ ts
    → IsSplit types (Whole (with_column ty (record { tys = ts; wanted = p.wanted; unwanted = p.unwanted; steps = p.steps }))) ls → IsSplit types (Whole p) ls
split-column types p ty ts ls e s = subst (λ l. IsSplit types (Whole (record { tys = l; wanted = p.wanted; unwanted = p.unwanted; steps = p.steps })) ls) (sym e) s

-- Lists in two pieces -----------------------------------------------------------------------------

module _ (types : List DataDecl) where
  none-left : (ks ls : List Left) → AllNone types (ks ++ ls) → AllNone types ks
  none-left [] ls h = tt
  none-left (k ∷ ks) ls h = (h.0, none-left ks ls h.1)

  none-right : (ks ls : List Left) → AllNone types (ks ++ ls) → AllNone types ls
  none-right [] ls h = h
  none-right (k ∷ ks) ls h = none-right ks ls h.1

  none-append : (ks ls : List Left) → AllNone types ks → AllNone types ls → AllNone types (ks ++ ls)
  none-append [] ls g h = h
  none-append (k ∷ ks) ls g h = (g.0, none-append ks ls g.1 h)

  costs-append : (ks ls : List Left) → costs types (ks ++ ls) ≡ costs types ks + costs types ls
  costs-append [] ls = omega arith
  costs-append (k ∷ ks) ls = let h = costs-append ks ls in omega (arith, h)

module _ (types : List DataDecl) (root : Problem) where
  within-append : (ks ls : List Left) → AreWithin types root ks → AreWithin types root ls → AreWithin types root (ks ++ ls)
  within-append [] ls g h = h
  within-append (k ∷ ks) ls g h = (g.0, within-append ks ls g.1 h)

  within-left : (ks ls : List Left) → AreWithin types root (ks ++ ls) → AreWithin types root ks
  within-left [] ls h = tt
  within-left (k ∷ ks) ls h = (h.0, within-left ks ls h.1)

  within-right : (ks ls : List Left) → AreWithin types root (ks ++ ls) → AreWithin types root ls
  within-right [] ls h = h
  within-right (k ∷ ks) ls h = within-right ks ls h.1

  pub within-last : (ks : List Left) (l : Left) → IsWorking types root (ks ++ l ∷ []) → IsWithin types root l
  within-last ks l h = (within-right ks (l ∷ []) h.within).0

  -- in place of one stands what answers for it
  pub working-split : (ks : List Left) (l : Left) (ls : List Left) → IsWorking types root (ks ++ l ∷ []) → IsSplit types l ls → IsWorking types root (ks ++ ls)
  working-split ks l ls h s = record {
    none = λ all. h.none (none-append types ks (l ∷ []) (none-left types ks ls all) (s.none (none-right types ks ls all), tt));
    within = within-append ks ls (within-left ks (l ∷ []) h.within) (s.within root (within-last ks l h));
  }

pub working-start : (types : List DataDecl) (root : Problem) (ls : List Left) → AreTypesIn types root.tys → root.steps ≡ [] → ls ≡ Whole root ∷ [] → IsWorking types root ls
working-start types root ls live steps e = subst (IsWorking types root) (sym e) (record {
  none = λ all. all.0;
  within = (record { ready = live; sound = λ row r. subst (λ ss. FoundIn types root (row_for_root ss row)) (sym steps) r }, tt);
})

pub split-falls : (types : List DataDecl) (ks : List Left) (l : Left) (ls : List Left) → IsSplit types l ls → costs types (ks ++ ls) < costs types (ks ++ l ∷ [])
split-falls types ks l ls s = let a = costs-append types ks ls in let b = costs-append types ks (l ∷ []) in let f = s.fewer in omega (arith, a, b, f)
