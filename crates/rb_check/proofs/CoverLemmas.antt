-- Notes match by match, and the first match that is not exhaustive.
use Rattle.std.proofs.Common.{◌≡◌, ℕ, zero, suc, ◌+◌, ◌<◌, ◌^◌, List, [], ◌∷◌, ◌++◌, take, drop, length, get_or, Ok, Err, Result, IfErr, IsOkUnless, refl, sym, ap, ◌∙◌, subst, append_assoc, arith}
use Rattle.std.specs.Prelude.{IsSome}
use Rattle.std.specs.Result.{IsErrAnd}
use Rattle.std.specs.List.{All}
use Rattle.std.proofs.lemmas.List.{append-nil}
use Rattle.std.proofs.lemmas.List.Elements.{All-contains_itself}
use Rattle.rb_core.specs.declared.types.DataDecl.{DataDecl}
use Rattle.rb_core.specs.declared.site.Site.{Site}
use Rattle.rb_core.specs.declared.program.Note.{Note}
use Rattle.rb_core.specs.Coverage.{AreExhaustive, AreNotes, AreSiteNotes, AreUnreached}
use Rattle.rb_core.specs.Matching.{IsExhaustive}
use Rattle.rb_matrix.specs.Exhaust as Matrix
use Rattle.rb_check.specs.declared.coverage.CoverFault.{CoverFault}
use Rattle.rb_check.specs.declared.coverage.CoverFault.TheVariants.{Missing, Memory}
use Rattle.rb_check.specs.Covering.{AreRefused, IsSiteRefused}
use Rattle.rb_check.specs.inner.Covering.{AreCovered, AreNumberedSites, IsNumberedSite, IsSiteCovered}
use Rattle.rb_check.proofs.SiteLemmas.{split-at, take-more}

-- a fault that ends a call is passed on
pub fault-passed : {A : Type 0} (r : Result A CoverFault) (fault : CoverFault) (P : CoverFault → Type 0) → IsErrAnd r (λ e. e ≡ fault) → P fault → IfErr r P
fault-passed (Ok a) fault P is h = tt
fault-passed (Err e) fault P is h = subst P (sym is) h

module _ (types : List DataDecl) where
  pub numbered-at : (ss : List Site) (i : ℕ) (s : Site) → i < length ss → s ≡ get_or ss i s → AreNumberedSites types ss → IsNumberedSite types s
  numbered-at [] i s lt is all = absurd (omega arith)
  numbered-at (x ∷ ss) zero s lt is all = let same : s ≡ x = is in subst (IsNumberedSite types) (sym same) all.0
  numbered-at (x ∷ ss) (suc i) s lt is all = numbered-at ss i s (omega arith) is all.1

  -- Unreached clauses

  pub unreached-are : (s : Site) (clauses : List ℕ) → Matrix.AreUnreached types s.scrutinee s.patterns clauses → AreUnreached types s.scrutinee s.patterns clauses
  unreached-are s clauses u = record {
    ascending = u.ascending;
    exact = λ i. (λ there. (u.within i there, u.unreached i there), λ h. u.every i h.0 h.1);
  }

  pub clauses-short : (s : Site) (clauses : List ℕ) → IsNumberedSite types s → Matrix.AreUnreached types s.scrutinee s.patterns clauses → All (λ i. i < 2 ^ 32) clauses
  clauses-short s clauses n u = λ k d lt. let there = u.within _ (All-contains_itself clauses k d lt) in let short = n.short in omega (arith, there, short)

  -- One match more

  exhaustive-more : (ss : List Site) (s : Site) → AreExhaustive types ss → IsExhaustive types s.scrutinee s.patterns → AreExhaustive types (ss ++ s ∷ [])
  exhaustive-more [] s all h = (h, tt)
  exhaustive-more (x ∷ ss) s all h = (all.0, exhaustive-more ss s all.1 h)

  notes-more : (ss : List Site) (s : Site) (notes here : List Note) → AreNotes types ss notes → AreSiteNotes types s here → AreNotes types (ss ++ s ∷ []) (notes ++ here)
  notes-more [] s notes here all h = (here, [], ap (λ n. n ++ here) all ∙ sym (append-nil here), h, refl)
  notes-more (x ∷ ss) s notes here all h =
      (all.0, all.1 ++ here, ap (λ n. n ++ here) all.2 ∙ append_assoc all.0 all.1 here, all.3, notes-more ss s all.1 here all.4 h)

  covered-more : (ss : List Site) (s : Site) (notes new : List Note) → AreCovered types ss notes → IsSiteCovered types s notes new → AreCovered types (ss ++ s ∷ []) new
  covered-more ss s notes new all h = record {
    exhaustive = exhaustive-more ss s all.exhaustive h.exhaustive;
    exact = subst (AreNotes types (ss ++ s ∷ [])) (sym h.added) (notes-more ss s notes h.here all.exact h.exact);
  }

  pub covered-next : (ss : List Site) (i : ℕ) (s : Site) (notes new : List Note) → i < length ss → s ≡ get_or ss i s
      → AreCovered types (take i ss) notes → IsSiteCovered types s notes new → AreCovered types (take (i + 1) ss) new
  covered-next ss i s notes new lt is all h = subst (λ xs. AreCovered types xs new) (sym (take-more ss i s lt is)) (covered-more (take i ss) s notes new all h)

  -- The first match that is not exhaustive

  pub refused-here : (ss : List Site) (i : ℕ) (s : Site) (notes : List Note) (fault : CoverFault) → i < length ss → s ≡ get_or ss i s
      → AreCovered types (take i ss) notes → IsSiteRefused types s fault → AreRefused types ss fault
  refused-here ss i s notes (Missing at q) lt is all h =
      record { before = take i ss; site = s; after = drop (suc i) ss; order = split-at ss i s lt is; exhaustive = all.exhaustive; refused = h }
  refused-here ss i s notes Memory lt is all h = tt

  exhaustive-within : (before : List Site) (s : Site) (after : List Site) → AreExhaustive types (before ++ s ∷ after) → IsExhaustive types s.scrutinee s.patterns
  exhaustive-within [] s after all = all.0
  exhaustive-within (x ∷ before) s after all = exhaustive-within before s after all.1

  refused-not_exhaustive : (ss : List Site) (fault : CoverFault) → AreRefused types ss fault → AreExhaustive types ss → fault ≡ Memory
  refused-not_exhaustive ss Memory h all = refl
  refused-not_exhaustive ss (Missing at q) h all =
      let missing = h.refused.1 in
      let here = exhaustive-within h.before h.site h.after (subst (AreExhaustive types) h.order all) in
      let some = subst IsSome (missing.none missing.value missing.typed missing.matched) (here missing.value missing.typed) in absurd (cc some)

  pub refused-complete : {A : Type 0} (r : Result A CoverFault) (ss : List Site) → IfErr r (AreRefused types ss) → AreExhaustive types ss → IsOkUnless r Memory
  refused-complete (Ok a) ss h all = tt
  refused-complete (Err fault) ss h all = refused-not_exhaustive ss fault h all
