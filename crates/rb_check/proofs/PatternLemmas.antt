-- What the subpatterns of a pattern bind, one after another.
use Rattle.std.proofs.Common.{◌≡◌, ℕ, zero, suc, ◌+◌, ◌<◌, List, [], ◌∷◌, ◌++◌, map, drop, length, Ok, Err, get_or, refl, sym, ap, arith, add-one, append_assoc}
use Rattle.rb_core.specs.declared.types.Ty.{Ty}
use Rattle.rb_core.specs.declared.program.Param.{Param}
use Rattle.rb_core.specs.declared.typing.TypeFault.{TypeFault}
use Rattle.rb_core.specs.Typing.{Typing, and_then, also_bound, subpatterns, PatternRule}

pub also_bound-next : (old new : List Param) (first rest : Typing (List Param)) → also_bound old first ≡ Ok new
    → also_bound old (and_then first (λ bound. also_bound bound rest)) ≡ also_bound new rest
also_bound-next old new (Ok bs) (Ok rs) e = let same : old ++ bs ≡ new = cc in rw (← same) (ap Ok (sym (append_assoc old bs rs)))
also_bound-next old new (Ok bs) (Err f) e = refl
also_bound-next old new (Err f) rest e = cc

pub also_bound-fails : (old : List Param) (first rest : Typing (List Param)) (fault : TypeFault) → also_bound old first ≡ Err fault
    → also_bound old (and_then first (λ bound. also_bound bound rest)) ≡ Err fault
also_bound-fails old (Ok bs) rest f e = cc
also_bound-fails old (Err g) rest f e = e

module _ {A : Type 0} (rule : A → PatternRule) where
  from_here : (ps : List A) (ts : List Ty) (i : ℕ) (p : A) (t : Ty) → i < length ps → length ps ≡ length ts
      → subpatterns (map rule (drop i ps)) (drop i ts)
      ≡ and_then (rule (get_or ps i p) (get_or ts i t)) (λ bound. also_bound bound (subpatterns (map rule (drop (suc i) ps)) (drop (suc i) ts)))
  from_here [] ts i p t lt e = absurd (omega arith)
  from_here (q ∷ ps) [] i p t lt e = absurd (omega arith)
  from_here (q ∷ ps) (u ∷ ts) zero p t lt e = refl
  from_here (q ∷ ps) (u ∷ ts) (suc i) p t lt e = from_here ps ts i p t (omega arith) (omega arith)

  pub subpatterns-drop : (ps : List A) (ts : List Ty) (i : ℕ) (p : A) (t : Ty) → i < length ps → length ps ≡ length ts
      → subpatterns (map rule (drop i ps)) (drop i ts)
      ≡ and_then (rule (get_or ps i p) (get_or ts i t)) (λ bound. also_bound bound (subpatterns (map rule (drop (i + 1) ps)) (drop (i + 1) ts)))
  subpatterns-drop ps ts i p t lt e = rw (add-one i) (from_here ps ts i p t lt e)

  pub bound-next : (ps : List A) (ts : List Ty) (i : ℕ) (p : A) (t : Ty) (old new : List Param) → i < length ps → length ps ≡ length ts
      → p ≡ get_or ps i p → also_bound old (rule p (get_or ts i t)) ≡ Ok new
      → also_bound old (subpatterns (map rule (drop i ps)) (drop i ts)) ≡ also_bound new (subpatterns (map rule (drop (i + 1) ps)) (drop (i + 1) ts))
  bound-next ps ts i p t old new lt e is h =
      rw (subpatterns-drop ps ts i p t lt e, ← is) (also_bound-next old new _ _ h)

  pub bound-fails : (ps : List A) (ts : List Ty) (i : ℕ) (p : A) (t : Ty) (old : List Param) (f : TypeFault) → i < length ps → length ps ≡ length ts
      → p ≡ get_or ps i p → also_bound old (rule p (get_or ts i t)) ≡ Err f
      → also_bound old (subpatterns (map rule (drop i ps)) (drop i ts)) ≡ Err f
  bound-fails ps ts i p t old f lt e is h = rw (subpatterns-drop ps ts i p t lt e, ← is) (also_bound-fails old _ _ f h)
