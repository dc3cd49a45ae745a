-- Integers in slices: shares side by side.
use Rattle.std.proofs.Common.{◌≡◌, ℕ, ◌+◌, ◌-◌, ◌*◌, ◌%◌, ◌^◌, ◌<◌, ◌≤◌, ◌==◌, ◌&&◌, min, List, [], ◌∷◌, ◌++◌, map, Bool, true, Option, Some, None, refl, sym, subst, ap, ◌∙◌, arith}
use Rattle.std.specs.Prelude.{slice_index, nat_le}
use Rattle.std.specs.List.{list_all}
use Rattle.std.proofs.lemmas.Bool.{and_parts}
use Rattle.std.proofs.lemmas.Bool.Decides.{nat_tests}
use Rattle.std.proofs.Math.Nat.{div-eq_of_lt}
use Rattle.rb_bits.specs.Words.{take_of, put_of}
use Rattle.rb_bits.proofs.RangeLemmas.{take_take, take_split}
use Rattle.rb_bits.proofs.WordLemmas.{take_fits, put_adds}
use Rattle.rb_bytes.specs.Memory.{Memory}
use Rattle.rb_core.specs.declared.types.Ty.TheVariants.{Int}
use Rattle.rb_layout.specs.declared.layout.Leaf.{Leaf}
use Rattle.rb_layout.specs.declared.layout.Part.{Part}
use Rattle.rb_layout.specs.declared.layout.Kind.TheVariants.{Bits}
use Rattle.rb_rel.specs.Relation.{HoldsKind}
use Rattle.rb_rel.proofs.Lists.{and_true}
use Rattle.rb_rel.proofs.Reading.{same_nat}
use Rattle.rb_fragment.specs.declared.reads.Read.{Read, Joined}
use Rattle.rb_fragment.specs.declared.reads.Share.{Share}
use Rattle.rb_fragment.specs.Reads.{where_some, Meant, joined_over, meant_of, is_range, fits, fits_share}
use Rattle.rb_fragment.proofs.ReadForms.{mean-Joined, meant-is, fits-Joined, fits-Share}
use Rattle.rb_fetch.specs.declared.span.Span.{Span}
use Rattle.rb_fetch.specs.declared.place.Wanted.TheVariants.{UnitOf}
use Rattle.rb_fetch.specs.inner.Placing.{is_wanted}
use Rattle.rb_fetch.specs.inner.Fields.{SpansPart, ReadsPart, ReadsAs, first_bit, is_whole, share_of, Slices}
use Rattle.rb_fetch.proofs.Spans.{bit_part, part_reads}

-- Numbers

-- the bits behind the first i of a number, put there
put_next : (x i l : ℕ) → put_of (take_of x 0 i) i l (take_of x i l) ≡ take_of x 0 (i + l)
put_next x i l =
    let w = take_of x 0 i in
    let none : take_of w i l ≡ 0 = ap (λ k. k % 2 ^ l) (div-eq_of_lt (take_fits x 0 i)) ∙ zero_mod (2 ^ l) in
    let a = put_adds w i l (take_of x i l) in
    let b : put_of w i l (take_of x i l) + 0 * 2 ^ i ≡ w + take_of x i l * 2 ^ i = ap (λ k. put_of w i l (take_of x i l) + k * 2 ^ i) (sym none) ∙ a in
    let z : 0 + i ≡ i = omega arith in
    let c : take_of x 0 (i + l) ≡ w + take_of x i l * 2 ^ i = take_split x 0 i l ∙ ap (λ k. w + take_of x k l * 2 ^ i) z in
    let d : 0 * 2 ^ i ≡ 0 = zero_times (2 ^ i) in
    omega (arith, b, c, d)
  where
    zero_times : (k : ℕ) → 0 * k ≡ 0
    zero_times k = omega arith

    zero_mod : (k : ℕ) → 0 % k ≡ 0
    zero_mod k = omega arith

-- Joining

where_more : (o : Option ℕ) (f : ℕ → Option ℕ) (g : ℕ → Option ℕ) → where_some (where_some o f) g ≡ where_some o (λ w. where_some (f w) g)
where_more None f g = refl
where_more (Some w) f g = refl

where_same : (o : Option ℕ) (f g : ℕ → Option ℕ) → ((w : ℕ) → f w ≡ g w) → where_some o f ≡ where_some o g
where_same None f g e = refl
where_same (Some w) f g e = e w

joined_last : (n : ℕ) (ps : List Meant) (p : Meant) (s : List ℕ) (m : Memory)
    → joined_over n (ps ++ p ∷ []) s m ≡ where_some (joined_over n ps s m) (λ k. where_some (p.reading s m) (λ w. Some (put_of k p.a p.l (take_of w p.o p.l))))
joined_last n [] p s m = refl
joined_last n (q ∷ ps) p s m =
    where_same (q.reading s m) _ _ (λ w. joined_last (put_of n q.a q.l (take_of w q.o q.l)) ps p s m)
    ∙ sym (where_more (q.reading s m) (λ w. joined_over (put_of n q.a q.l (take_of w q.o q.l)) ps s m) (λ k. where_some (p.reading s m) (λ w. Some (put_of k p.a p.l (take_of w p.o p.l)))))

map_last : {A B : Type 0} (f : A → B) (xs : List A) (x : A) → map f (xs ++ x ∷ []) ≡ map f xs ++ f x ∷ []
map_last f [] x = refl
map_last f (y ∷ xs) x = ap (λ zs. f y ∷ zs) (map_last f xs x)

all_last : (bs : List Bool) (b : Bool) → list_all (λ c. c) bs ≡ true → b ≡ true → list_all (λ c. c) (bs ++ b ∷ []) ≡ true
all_last [] b h e = and_true b true e refl
all_last (c ∷ bs) b h e =
    let f = and_parts c (list_all (λ d. d) bs) h in and_true c (list_all (λ d. d) (bs ++ b ∷ [])) f.0 (all_last bs b f.1 e)

range_yes : (o l : ℕ) → 1 ≤ l → o + l ≤ 64 → is_range o l ≡ true
range_yes o l low high =
    let a : nat_le 1 l ≡ true = grind (arith, nat_tests, low) in
    let b : nat_le (o + l) 64 ≡ true = grind (arith, nat_tests, high) in and_true (nat_le 1 l) (nat_le (o + l) 64) a b

-- no share means no bit
pub slices_none : (leaf : Leaf) (words : List Read) (path : List ℕ) → Slices leaf words path 0 []
slices_none leaf words path = record {
  fit = λ k all n. refl;
  means = λ ws s m clean subs ats good meant placed. ap Some (let f = take_fits (slice_index (subs path) 0) 0 0 in omega (arith, f));
}

-- how far a part takes the integer on
abbrev pub skip_of : Part → ℕ → ℕ
skip_of p i = i - first_bit p.kind

abbrev pub len_of : Part → ℕ → ℕ → ℕ
len_of p i width = min (p.l - skip_of p i) (width - i)

module _ (width i : ℕ) (path : List ℕ) (p : Part) (wanted : is_wanted path (UnitOf (Int width) i) p ≡ true) (before : i < width) where
  abbrev len : ℕ
  len = len_of p i width

  abbrev skip : ℕ
  skip = skip_of p i

  record Goes : Type 0 where
    pub a : ℕ
    pub is_kind : p.kind ≡ Bits path a
    pub at : a + skip ≡ i
    pub some : 1 ≤ len
    pub inside : skip + len ≤ p.l
    pub within : i + len ≤ width

  goes : Goes
  goes =
      let b = bit_part width i path p wanted in
      let f : first_bit p.kind ≡ b.0 = ap first_bit b.1 in
      record {
        a = b.0;
        is_kind = b.1;
        at = omega (arith, f, b.2);
        some = omega (arith, f, b.2, b.3, before);
        inside = omega (arith, f, b.2, b.3);
        within = omega (arith, before);
      }

  pub on_some : 1 ≤ len
  on_some = goes.some

  pub on_within : i + len ≤ width
  on_within = goes.within

  pub slices_more : width ≤ 64 → (leaf : Leaf) (words : List Read) (span : Span) (shares : List Share) → SpansPart leaf words span p.l p.kind → Slices leaf words path i shares
      → Slices leaf words path (i + len) (shares ++ share_of span skip len i ∷ [])
  slices_more narrow leaf words span shares sp sl =
      let g = goes in
      let q = share_of span skip len i in
      let long = sp.long in
      let high = sp.range.1 in
      let o : q.o ≡ span.o + skip = omega (arith, high, long, g.inside, g.some) in
      let l : q.l ≡ len = omega (arith, g.within, narrow) in
      let a : q.a ≡ i = omega (arith, before, narrow) in
      record {
        fit = λ k all n.
            let r1 : is_range q.o q.l ≡ true = ap (λ x. is_range x q.l) o ∙ ap (is_range (span.o + skip)) l ∙ range_yes (span.o + skip) len g.some (omega (arith, high, long, g.inside)) in
            let r2 : is_range q.a q.l ≡ true = ap (λ x. is_range x q.l) a ∙ ap (is_range i) l ∙ range_yes i len g.some (omega (arith, g.within, narrow)) in
            let yes : fits_share k q ≡ true = fits-Share k q ∙ and_true (fits k span.read) (is_range q.o q.l && is_range q.a q.l) (sp.fit k all n) (and_true (is_range q.o q.l) (is_range q.a q.l) r1 r2) in
            ap (list_all (λ b. b)) (map_last (fits_share k) shares q) ∙ all_last (map (fits_share k) shares) (fits_share k q) (sl.fit k all n) yes;
        means = λ ws s m clean subs ats good meant placed.
            let x = slice_index (subs path) 0 in
            let u = sp.means ws s m clean subs ats good meant placed in
            let w = u.1.word in
            let held : u.0 ≡ take_of x g.a p.l = subst (λ y. HoldsKind subs ats u.0 p.l y) g.is_kind u.2 in
            let fit1 : skip + len ≤ span.l = omega (arith, long, g.inside) in
            let part : take_of w (span.o + skip) len ≡ take_of x i len =
            sym (take_take w span.o span.l skip len fit1) ∙ ap (λ y. take_of y skip len) (sym u.1.are_bits ∙ held) ∙ take_take x g.a p.l skip len g.inside ∙ ap (λ y. take_of x y len) g.at in
            let put : put_of (take_of x 0 i) q.a q.l (take_of w q.o q.l) ≡ take_of x 0 (i + len) =
            ap (λ y. put_of (take_of x 0 i) q.a q.l (take_of w y q.l)) o ∙ ap (λ y. put_of (take_of x 0 i) q.a y (take_of w (span.o + skip) y)) l ∙ ap (λ y. put_of (take_of x 0 i) y len (take_of w (span.o + skip) len)) a
            ∙ ap (put_of (take_of x 0 i) i len) part ∙ put_next x i len in
            ap (λ ps. joined_over 0 ps s m) (map_last meant_of shares q) ∙ joined_last 0 (map meant_of shares) (meant_of q) s m
            ∙ ap (λ y. where_some y (λ k. where_some ((meant_of q).reading s m) (λ v. Some (put_of k (meant_of q).a (meant_of q).l (take_of v (meant_of q).o (meant_of q).l))))) (sl.means ws s m clean subs ats good meant placed)
            ∙ ap (λ (y : Meant). where_some (y.reading s m) (λ v. Some (put_of (take_of x 0 i) y.a y.l (take_of v y.o y.l)))) (meant-is q)
            ∙ ap (λ y. where_some y (λ v. Some (put_of (take_of x 0 i) q.a q.l (take_of v q.o q.l)))) u.1.is_word
            ∙ ap Some put;
      }

-- all slices are the integer
pub slices_read : (leaf : Leaf) (words : List Read) (path : List ℕ) (width : ℕ) (shares : List Share) → Slices leaf words path width shares
    → ReadsAs leaf words (Joined shares) (λ subs. take_of (slice_index (subs path) 0) 0 width)
slices_read leaf words path width shares sl = record {
  fit = λ k all n. fits-Joined k shares ∙ sl.fit k all n;
  origin = λ x e. absurd cc;
  means = λ ws s m clean subs ats good meant placed. mean-Joined shares s m ∙ sl.means ws s m clean subs ats good meant placed;
}

-- a part that is the whole integer
pub whole_reads : (leaf : Leaf) (words : List Read) (read : Read) (width : ℕ) (path : List ℕ) (p : Part) → is_wanted path (UnitOf (Int width) 0) p ≡ true → is_whole width p ≡ true
    → ReadsPart leaf words read p.l p.kind → ReadsAs leaf words read (λ subs. take_of (slice_index (subs path) 0) 0 width)
whole_reads leaf words read width path p wanted whole rp =
    let b = bit_part width 0 path p wanted in
    let w = and_parts (p.l == width) (first_bit p.kind == 0) whole in
    let long : p.l ≡ width = same_nat p.l width w.0 in
    let first : b.0 ≡ 0 = sym (ap first_bit b.1) ∙ same_nat (first_bit p.kind) 0 w.1 in
    part_reads leaf words read p.l p.kind rp (λ subs. take_of (slice_index (subs path) 0) 0 width)
    (λ subs ats n h. subst (λ k. HoldsKind subs ats n p.l k) b.1 h ∙ ap (λ a. take_of (slice_index (subs path) 0) a p.l) first ∙ ap (take_of (slice_index (subs path) 0) 0) long)
