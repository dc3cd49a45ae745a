-- A memory that grows, and where blocks that can be loaded from lie.
use Rattle.std.proofs.Common.{◌≡◌, ℕ, ◌<◌, ◌≤◌, List, [], ◌∷◌, ◌++◌, Ok, refl, sym, ap, ◌∙◌, arith, append_assoc}
use Rattle.std.proofs.lemmas.List.{append-nil}
use Rattle.rb_bytes.specs.Memory.{Memory, IsGood, byte_at, load_of, most_region}
use Rattle.rb_bytes.specs.Laws.{Extends, KeepsLoads}
use Rattle.rb_bytes.specs.Growth.{IsWhole, AreWhole, Grown, GrowthLaws}
use Rattle.rb_bytes.proofs.MemoryLemmas.{written_below, within_next, load_ok, load_extends}

pub Grown-extends : (m m' : Memory) (bs : List (ℕ × ℕ)) (p : ℕ) → IsGood m → Grown m m' bs p → Extends m m'
Grown-extends m m' bs p good g = record {
  limit = g.limit;
  next = omega (arith, g.rises, g.next);
  blocks = (bs, g.behind);
  written = λ a b e. g.kept a (written_below m a b good e) ∙ e;
}

pub Grown-refl : (m : Memory) → IsGood m → Grown m m [] m.next
Grown-refl m good = record {
  limit = refl;
  next = refl;
  rises = omega arith;
  behind = sym (append-nil m.blocks);
  kept = λ a lt. refl;
  whole = tt;
  good = good;
}

module _ (m m' : Memory) (up : m.next ≤ m'.next) (kept : (a : ℕ) → a < m.next → byte_at m'.bytes a ≡ byte_at m.bytes a) where
  IsWhole-grown : (b : ℕ × ℕ) → IsWhole m b → IsWhole m' b
  IsWhole-grown b w =
      (omega (arith, w.0, up), λ a low high. let below : a < m.next = omega (arith, w.0, high) in let u = w.1 a low high in (u.0, kept a below ∙ u.1))

  AreWhole-grown : (bs : List (ℕ × ℕ)) → AreWhole m bs → AreWhole m' bs
  AreWhole-grown [] a = tt
  AreWhole-grown (b ∷ bs) a = (IsWhole-grown b a.0, AreWhole-grown bs a.1)

AreWhole-append : (m : Memory) (bs cs : List (ℕ × ℕ)) → AreWhole m bs → AreWhole m cs → AreWhole m (bs ++ cs)
AreWhole-append m [] cs a b = b
AreWhole-append m (x ∷ bs) cs a b = (a.0, AreWhole-append m bs cs a.1 b)

pub Grown-trans : (m m1 m2 : Memory) (bs cs : List (ℕ × ℕ)) (p q : ℕ) → Grown m m1 bs p → Grown m1 m2 cs q → Grown m m2 (bs ++ cs) q
Grown-trans m m1 m2 bs cs p q g h = record {
  limit = h.limit ∙ g.limit;
  next = h.next;
  rises = omega (arith, g.rises, g.next, h.rises);
  behind = h.behind ∙ ap (λ l. l ++ cs) g.behind ∙ append_assoc m.blocks bs cs;
  kept = λ a lt. let lt1 : a < m1.next = omega (arith, g.rises, g.next, lt) in h.kept a lt1 ∙ g.kept a lt;
  whole = AreWhole-append m2 bs cs (AreWhole-grown m1 m2 (omega (arith, h.rises, h.next)) h.kept bs g.whole) h.whole;
  good = h.good;
}

pub Grown-loads : (m m' : Memory) (bs : List (ℕ × ℕ)) (p : ℕ) → IsGood m → Grown m m' bs p → KeepsLoads m m'
Grown-loads m m' bs p good g = λ b o w r is. load_extends m m' b o w r (Grown-extends m m' bs p good g) is

pub growth_is : GrowthLaws
growth_is = record { none = Grown-refl; twice = Grown-trans; extends = Grown-extends; loads = Grown-loads }

-- an address that is loaded from is small, so that no sum or product with it wraps round
pub address_small : (m : Memory) (base offset width r : ℕ) → IsGood m → load_of m base offset width ≡ Ok r → base ≤ most_region
address_small m base offset width r good is =
    let within = within_next m base _ good (load_ok m base offset width r is).0 in
    omega (arith, within, good.next, good.limit)
