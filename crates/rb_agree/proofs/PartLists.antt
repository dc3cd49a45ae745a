-- The parts of a word, from what is found of them one by one and two by two.
use Rattle.std.proofs.Common.{◌≡◌, ℕ, zero, suc, ◌<◌, inl, inr, List, [], ◌∷◌, Option, Some, None, refl, sym, subst, arith}
use Rattle.std.specs.Prelude.{slice_get, MatchOption}
use Rattle.std.proofs.lemmas.Option.{same_Some}
use Rattle.std.proofs.lemmas.Bool.{cases_lt}
use Rattle.rb_bits.specs.Words.{AreDisjoint}
use Rattle.rb_core.specs.declared.types.Ty.{Ty}
use Rattle.rb_core.specs.declared.layout_decl.LayoutDecl.{LayoutDecl}
use Rattle.rb_layout.specs.declared.evidence.Why.{Why}
use Rattle.rb_layout.specs.declared.evidence.Why.TheVariants.{Outside, Overlap, ConstWide, Misfit}
use Rattle.rb_layout.specs.Positions.{Open}
use Rattle.rb_layout.specs.Flattening.{IsOpenIn, type_at}
use Rattle.rb_layout.specs.Items.{Content, Number, Whole, Slice, WordOf, Address, WrittenPart}
use Rattle.rb_layout.specs.A3.{Fits, FitsSlice, FitsWhole, FitsWord, IsContentPlaced, PartAt, PartsFit}
use Rattle.rb_agree.specs.declared.items.Written.{Written}
use Rattle.rb_agree.specs.Written.{shown_part}
use Rattle.rb_agree.specs.inner.Lists.{EachOf}
use Rattle.rb_agree.specs.inner.Parts.{PartsAreApart, AreFine, FailsApart, FailsSome, FailsWord, IsPartFine, IsSet, shown_parts}
use Rattle.rb_agree.proofs.Lists.{each-map, map-at}

-- of what isn't placed nothing is demanded
module _ (decls : List LayoutDecl) (opens : List Open) (l : ℕ) where
  when-open : (P : Option Ty → Type 0) (path : List ℕ) (x : Option Ty) → type_at opens path ≡ x → P None → (IsOpenIn opens path → ⊥) → P (type_at opens path)
  when-open P path None is none not = subst P (sym is) none
  when-open P path (Some ty) is none not = absurd (not (ty, is))

  pub no-demand : (c : Content) → (IsContentPlaced opens c → ⊥) → Fits decls opens l c
  no-demand (Number c) not = absurd (not tt)
  no-demand (Whole path) not = when-open (λ x. FitsWhole decls x l) path (type_at opens path) refl tt not
  no-demand (Slice path a k) not = when-open (λ x. FitsSlice x l a k) path (type_at opens path) refl tt not
  no-demand (WordOf path j) not = when-open (λ x. FitsWord decls x l j) path (type_at opens path) refl tt not
  no-demand (Address align) not = tt

pub not-placed : (decls : List LayoutDecl) (opens : List Open) (width : ℕ) (p : WrittenPart) → (IsContentPlaced opens p.content → ⊥) → IsPartFine decls opens width p
not-placed decls opens width p not = record { inside = λ placed. absurd (not placed); fit = no-demand decls opens p.l p.content not }

unmap : (ws : List Written) (k : ℕ) (p : WrittenPart) → slice_get (shown_parts ws) k ≡ Some p → (w : Written) × (slice_get ws k ≡ Some w) × (shown_part w ≡ p)
unmap [] k p e = absurd cc
unmap (w ∷ ws) zero p e = (w, refl, same_Some (shown_part w) p e)
unmap (w ∷ ws) (suc k) p e = unmap ws k p e

module _ (decls : List LayoutDecl) (opens : List Open) (i width : ℕ) (parts : List Written) where
  abbrev part-at : (k : ℕ) (w : Written) (o l : ℕ) → slice_get parts k ≡ Some w → IsContentPlaced opens (shown_part w).content → w.o ≡ o → w.l ≡ l → PartAt opens (shown_parts parts) o l
  part-at k w o l at placed from long =
      record { number = k; part = shown_part w; is_part = map-at shown_part parts k w at; placed = placed; from = from; length = long }

  pub some-fails : (why : Why) → FailsSome decls opens i width parts why → FailsWord decls opens i width (shown_parts parts) why
  some-fails (Outside j o l) h = (h.3.1.0, (part-at h.0 h.1 o l h.2 h.3.0 h.3.1.1 h.3.1.2, h.3.1.3))
  some-fails (ConstWide j c l) h = (h.3.1.0, (h.1.o, part-at h.0 h.1 h.1.o l h.2 h.3.0 refl h.3.1.1, h.3.1.2, h.3.1.3))
  some-fails (Misfit j o l path) h = (h.3.1.0, (part-at h.0 h.1 o l h.2 h.3.0 h.3.1.1 h.3.1.2, h.3.1.3, h.3.1.4))
  some-fails why h = absurd h.3.1

  pub apart-fails : (why : Why) → FailsApart opens i parts why → FailsWord decls opens i width (shown_parts parts) why
  apart-fails (Overlap x o l b m) h =
      let pair = h.1.8 in (
        pair.0,
        elim pair.1 [
          | inl f ↦ record {
            first = part-at h.1.0 h.1.1 o l h.1.4 h.1.6 f.0.0 f.0.1;
            second = part-at h.0 h.1.2 b m h.1.5 h.1.7 f.0.2 f.0.3;
            order = elim (cases_lt o b) [ inl less ↦ inl less | inr most ↦ inr (omega (arith, most, f.1), h.1.3) ];
            bit = b;
            in_first = pair.2.0;
            in_second = pair.2.1;
          }
          | inr f ↦ record {
            first = part-at h.0 h.1.2 o l h.1.5 h.1.7 f.0.0 f.0.1;
            second = part-at h.1.0 h.1.1 b m h.1.4 h.1.6 f.0.2 f.0.3;
            order = inl f.1;
            bit = b;
            in_first = pair.2.0;
            in_second = pair.2.1;
          }
        ],
      )
  apart-fails why h = absurd h.1.8

  disjoint-at : PartsAreApart opens parts → (j k : ℕ) (p q : WrittenPart) → j < k → slice_get (shown_parts parts) j ≡ Some p → slice_get (shown_parts parts) k ≡ Some q
      → IsContentPlaced opens p.content → IsContentPlaced opens q.content → AreDisjoint p.o p.l q.o q.l
  disjoint-at apart j k p q lt ej ek pj pk =
      let v = unmap parts j p ej in
      let w = unmap parts k q ek in
      let set-v : IsSet opens v.0 = subst (λ (x : WrittenPart). IsContentPlaced opens x.content) (sym v.2) pj in
      let set-w : IsSet opens w.0 = subst (λ (x : WrittenPart). IsContentPlaced opens x.content) (sym w.2) pk in
      let here : AreDisjoint v.0.o v.0.l w.0.o w.0.l = apart k j v.0 w.0 lt v.1 w.1 set-v set-w in
      subst (λ (x : WrittenPart). AreDisjoint p.o p.l x.o x.l) w.2 (subst (λ (x : WrittenPart). AreDisjoint x.o x.l w.0.o w.0.l) v.2 here)

  parts-fit : AreFine decls opens width parts → PartsAreApart opens parts → PartsFit decls opens width (shown_parts parts)
  parts-fit fine apart =
      let all : EachOf (IsPartFine decls opens width) (shown_parts parts) = each-map shown_part (IsPartFine decls opens width) parts fine in
      record {
        inside = λ k p at placed. (all k p at).inside placed;
        disjoint = λ j k p q lt ej ek pj pk. disjoint-at apart j k p q lt ej ek pj pk;
        fit = λ k p at. (all k p at).fit;
      }

  pub word-found : (r s : Option Why) → r ≡ None → MatchOption r (AreFine decls opens width parts) (FailsSome decls opens i width parts)
      → MatchOption s (PartsAreApart opens parts) (FailsApart opens i parts) → MatchOption s (PartsFit decls opens width (shown_parts parts)) (FailsWord decls opens i width (shown_parts parts))
  word-found r None is h apart = parts-fit (subst (λ (x : Option Why). MatchOption x (AreFine decls opens width parts) (FailsSome decls opens i width parts)) is h) apart
  word-found r (Some why) is h bad = apart-fails why bad

  pub each-found : (r : Option Why) (why : Why) → r ≡ Some why → MatchOption r (AreFine decls opens width parts) (FailsSome decls opens i width parts)
      → FailsWord decls opens i width (shown_parts parts) why
  each-found r why is h = some-fails why (subst (λ (x : Option Why). MatchOption x (AreFine decls opens width parts) (FailsSome decls opens i width parts)) is h)
