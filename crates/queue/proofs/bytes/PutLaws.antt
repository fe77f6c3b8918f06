-- The laws of `splice` and of `Put`. None has a side condition but `splice_is`. Assumes nothing.
use Rattle.std.specs.Prelude.{◌≡◌, refl, List, [], ◌∷◌, ◌++◌, ℕ, zero, suc, ◌+◌, ◌-◌, ◌≤◌, ◌<◌, ◌/◌, ◌%◌, length, set, take, drop, get_or}
use Rattle.std.proofs.Common.{append_assoc, sym, ap, ◌∙◌, arith, add-zero, suc-add, add-suc, zero-add, add-one, length-set, length-append, length-drop, length-take, take-suc, get_or-drop, drop-set-lt}
use Rattle.std.proofs.lemmas.List.{drop-drop, set_comm, take-set-le, set-append_left}
use Rattle.std.proofs.lemmas.List.Edits.{sets, sets-eq}
use Rattle.queue.specs.Basics.{set_behind}
use Rattle.queue.specs.bytes.PutAs.{splice, be_last, Put}
use Rattle.queue.specs.paper.Area.{over}
use borrow.Rule.Slice.PartMut.{put_mid}

-- the length is kept
pub length_splice : (d : List ℕ) (at : ℕ) (bs : List ℕ) → length (splice d at bs) ≡ length d
unfolding splice
length_splice d at [] = refl
length_splice d at (b ∷ bs) = length_splice (set d at b) (suc at) bs ∙ length-set d at b

-- two adjacent ones are one
pub splice_append : (d : List ℕ) (at : ℕ) (a b : List ℕ) → splice (splice d at a) (at + length a) b ≡ splice d at (a ++ b)
unfolding splice
splice_append d at [] b = rw add-zero
splice_append d at (x ∷ a) b = rw (add-suc, ← suc-add) (splice_append (set d at x) (suc at) a b)

-- a store past the bytes may come first
pub splice_set : (d : List ℕ) (at : ℕ) (bs : List ℕ) (j v : ℕ) → at + length bs ≤ j → set (splice d at bs) j v ≡ splice (set d j v) at bs
unfolding splice
splice_set d at [] j v h = refl
splice_set d at (b ∷ bs) j v h =
    splice_set (set d at b) (suc at) bs j v (omega arith) ∙ ap (λ (l : List ℕ). splice l (suc at) bs) (set_comm d at j b v (λ e. omega arith))

-- it is the stores one after the other, and so a cut and a paste
pub splice_sets : (d : List ℕ) (at : ℕ) (bs : List ℕ) → splice d at bs ≡ sets d at bs
unfolding splice
splice_sets d at [] = refl
splice_sets d at (b ∷ bs) = splice_sets (set d at b) (suc at) bs

pub splice_is : (d : List ℕ) (at : ℕ) (bs : List ℕ) → at + length bs ≤ length d → splice d at bs ≡ take at d ++ bs ++ drop (at + length bs) d
splice_is d at bs h = splice_sets d at bs ∙ sets-eq bs d at h

pub length_be : (n x : ℕ) → length (be_last n x) ≡ n
length_be zero x = refl
length_be (suc n) x = simp (length-append, length_be n (x / 256), add-one)

-- ---- `Put`

pub nothing : (d : List ℕ) (at : ℕ) → Put d at [] 0 at d
unfolding splice
nothing d at = record { next = sym (add-zero at); size = refl; is = refl }

pub stored : (d : List ℕ) (at b : ℕ) → Put d at (b ∷ []) 1 (at + 1) (set d at b)
unfolding splice
stored d at b = record { next = refl; size = refl; is = refl }

pub length_take_le : (n : ℕ) (l : List ℕ) → n ≤ length l → length (take n l) ≡ n
length_take_le n l h = simp length-take (omega arith)

-- a part of a slice written over
pub pasted : (d : List ℕ) (at e : ℕ) {n : ℕ} (bs : List ℕ) → at + n ≡ e → e ≤ length d → length bs ≡ n → Put d at bs n e (put_mid at (e - at) d bs)
pasted d at e {n} bs p h q =
    let z : at + (e - at) ≡ at + length bs = omega arith in
    record {
      next = sym p;
      size = q;
      is =
          ap (λ (t : List ℕ). take at d ++ (bs ++ t)) (drop-drop (e - at) at d ∙ ap (λ (k : ℕ). drop k d) z)
          ∙ sym (append_assoc (take at d) bs (drop (at + length bs) d))
          ∙ sym (splice_is d at bs (omega arith));
    }

-- one after the other
pub then : {d d' d'' : List ℕ} {at p r m n : ℕ} {a b : List ℕ} → Put d at a m p d' → Put d' p b n r d'' → Put d at (a ++ b) (m + n) r d''
then {d} {d'} {d''} {at} {p} {r} {m} {n} {a} {b} x y =
    record {
      next = omega (arith, x.next, y.next);
      size = length-append a b ∙ cc (x.size, y.size);
      is =
          y.is
          ∙ ap (λ (k : ℕ). splice d' k b) (x.next ∙ ap (λ (k : ℕ). at + k) (sym x.size))
          ∙ ap (λ (l : List ℕ). splice l (at + length a) b) x.is
          ∙ splice_append d at a b;
    }

pub kept : {d d' : List ℕ} {at r n : ℕ} {bs : List ℕ} → Put d at bs n r d' → length d' ≡ length d
kept {d} {d'} {at} {r} {n} {bs} p = ap length p.is ∙ length_splice d at bs

-- the same, said otherwise
pub recast : {d d' : List ℕ} {at r r' n n' : ℕ} {a b : List ℕ} → Put d at a n r d' → a ≡ b → n ≡ n' → r ≡ r' → Put d at b n' r' d'
recast {d} {d'} {at} {r} {r'} {n} {n'} {a} {b} p e f g =
    record {
      next = omega (arith, p.next, f, g);
      size = ap length (sym e) ∙ p.size ∙ f;
      is = p.is ∙ ap (splice d at) e;
    }

-- one byte more
pub snoc : {d d' : List ℕ} {at r n : ℕ} {bs : List ℕ} (b : ℕ) → Put d at bs n r d' → Put d at (bs ++ (b ∷ [])) (n + 1) (r + 1) (set d' r b)
snoc {d} {d'} {at} {r} {n} {bs} b p = then p (stored d' r b)

-- a turn of a loop that copies s, or src from `from` on
pub copy_turn : (s : List ℕ) {d d' : List ℕ} {at r j : ℕ} → Put d at (take j s) j r d' → j < length s → Put d at (take (j + 1) s) (j + 1) (r + 1) (set d' r (get_or s j 0))
copy_turn s {d} {d'} {at} {r} {j} p h = recast (snoc (get_or s j 0) p) (sym (take-suc s j 0 h) ∙ ap (λ (k : ℕ). take k s) (sym (add-one j))) refl refl

pub copy_from_turn : (src : List ℕ) (from : ℕ) {d d' : List ℕ} {at r j : ℕ} → Put d at (take j (drop from src)) j r d' → from + j < length src → Put d at (take (j + 1) (drop from src)) (j + 1) (r + 1) (set d' r (get_or src (from + j) 0))
copy_from_turn src from {d} {d'} {at} {r} {j} p h = rw (← get_or-drop) (copy_turn (drop from src) p (simp length-drop (omega arith)))

-- a turn of a loop that writes digits, the last first
be_suc : (d : List ℕ) (at k v : ℕ) → splice (set d (at + k) (v % 256)) at (be_last k (v / 256)) ≡ splice d at (be_last (suc k) v)
unfolding splice
be_suc d at k v =
    sym (splice_set d at (be_last k (v / 256)) (at + k) (v % 256) (omega (arith, length_be k (v / 256))))
    ∙ ap (λ (m : ℕ). set (splice d at (be_last k (v / 256))) (at + m) (v % 256)) (sym (length_be k (v / 256)))
    ∙ splice_append d at (be_last k (v / 256)) (v % 256 ∷ [])

pub be_turn : (d : List ℕ) (at i v : ℕ) → 0 < i → splice (set d (at + (i - 1)) (v % 256)) at (be_last (i - 1) (v / 256)) ≡ splice d at (be_last i v)
be_turn d at i v h =
    be_suc d at (i - 1) v ∙ ap (λ (k : ℕ). splice d at (be_last k v)) (let e : suc (i - 1) ≡ i = omega arith in e)

-- a store before the bytes may come first
before : (d : List ℕ) (j v : ℕ) (bs : List ℕ) (at : ℕ) → j < at → set (splice d at bs) j v ≡ splice (set d j v) at bs
unfolding splice
before d j v [] at h = refl
before d j v (b ∷ bs) at h =
    before (set d at b) j v bs (suc at) (omega arith) ∙ ap (λ (l : List ℕ). splice l (suc at) bs) (set_comm d at j b v (λ e. omega arith))

-- ---- what is left to write: a loop's invariant in terms of the rest. d is at position o, and with the rest written there it is d₀ with all written at `at`
pub record Left (d₀ : List ℕ) (at : ℕ) (all : List ℕ) (d : List ℕ) (o : ℕ) (rest : List ℕ) : Type 0 where
  pub pos : o + length rest ≡ at + length all
  pub is : splice d o rest ≡ splice d₀ at all

pub begun : (d : List ℕ) (at : ℕ) (all : List ℕ) → Left d at all d at all
begun d at all = record { pos = refl; is = refl }

pub onward : {d₀ d d' all a rest : List ℕ} {at o p m : ℕ} → Left d₀ at all d o (a ++ rest) → Put d o a m p d' → Left d₀ at all d' p rest
onward {d₀} {d} {d'} {all} {a} {rest} {at} {o} {p} {m} l w =
    record {
      pos = omega (arith, l.pos, w.next, w.size, length-append a rest);
      is =
          ap (λ (k : ℕ). splice d' k rest) (w.next ∙ ap (λ (k : ℕ). o + k) (sym w.size))
          ∙ ap (λ (x : List ℕ). splice x (o + length a) rest) w.is
          ∙ splice_append d o a rest
          ∙ l.is;
    }

pub done : {d₀ d all : List ℕ} {at o : ℕ} → Left d₀ at all d o [] → Put d₀ at all (length all) o d
unfolding splice
done {d₀} {d} {all} {at} {o} l = record { next = omega (arith, l.pos); size = refl; is = l.is }

-- the same bytes under another name, with their length as the size
pub sized : {d d' : List ℕ} {at r n : ℕ} {a x : List ℕ} → Put d at a n r d' → x ≡ a → Put d at x (length x) r d'
sized {d} {d'} {at} {r} {n} {a} {x} p e = recast p (sym e) (sym p.size ∙ ap length (sym e)) refl

-- ---- what stands in front written last, as a header that holds a count
swap : (d : List ℕ) (at : ℕ) (a b : List ℕ) → splice (splice d (at + length a) b) at a ≡ splice (splice d at a) (at + length a) b
unfolding splice
swap d at [] b = refl
swap d at (x ∷ a) b =
    let e : at + length (x ∷ a) ≡ suc at + length a = add-suc at (length a) ∙ sym (suc-add at (length a)) in
    rw e (ap (λ (l : List ℕ). splice l (suc at) a) (before d at x b (suc at + length a) (omega arith)) ∙ swap (set d at x) (suc at) a b)

pub front : {d d' d'' : List ℕ} {at p r m n : ℕ} {a b : List ℕ} → Put d p b n r d' → Put d' at a m p d'' → Put d at (a ++ b) (m + n) r d''
front {d} {d'} {d''} {at} {p} {r} {m} {n} {a} {b} y x =
    record {
      next = omega (arith, x.next, y.next);
      size = length-append a b ∙ cc (x.size, y.size);
      is =
          x.is
          ∙ ap (λ (l : List ℕ). splice l at a) (y.is ∙ ap (λ (k : ℕ). splice d k b) (x.next ∙ ap (λ (k : ℕ). at + k) (sym x.size)))
          ∙ swap d at a b
          ∙ splice_append d at a b;
    }

-- ---- read back what was written, and what was not
pub take_splice : (d : List ℕ) (n at : ℕ) (bs : List ℕ) → n ≤ at → take n (splice d at bs) ≡ take n d
unfolding splice
take_splice d n at [] h = refl
take_splice d n at (b ∷ bs) h = take_splice (set d at b) n (suc at) bs (omega arith) ∙ take-set-le n d at b h

pub drop_splice : (d : List ℕ) (n at : ℕ) (bs : List ℕ) → at + length bs ≤ n → drop n (splice d at bs) ≡ drop n d
unfolding splice
drop_splice d n at [] h = refl
drop_splice d n at (b ∷ bs) h = drop_splice (set d at b) n (suc at) bs (omega arith) ∙ drop-set-lt n d at b (omega arith)

-- ---- a part of d that was lent and comes back with bytes written over it

-- bytes written over m, which stands between p and q
between : (p m q : List ℕ) (j : ℕ) (bs : List ℕ) → j + length bs ≤ length m → p ++ (splice m j bs ++ q) ≡ splice (p ++ (m ++ q)) (length p + j) bs
unfolding splice
between p m q j [] h = refl
between p m q j (b ∷ bs) h =
    between p (set m j b) q (suc j) bs (omega (arith, length-set m j b))
    ∙ ap (λ (l : List ℕ). splice (p ++ l) (length p + suc j) bs) (sym (set-append_left m q j b (omega arith)))
    ∙ ap (λ (l : List ℕ). splice l (length p + suc j) bs) (sym (set_behind p (m ++ q) j b))
    ∙ ap (λ (k : ℕ). splice (set (p ++ (m ++ q)) (length p + j) b) k bs) (add-suc (length p) j)

-- ---- bytes written over the front
pub over_splice : (d bs : List ℕ) → length bs ≤ length d → over bs d ≡ splice d 0 bs
unfolding over
over_splice d bs h = sym (splice_is d 0 bs (omega arith) ∙ rw zero-add)

pub put_over : {d d' bs : List ℕ} {n r : ℕ} → Put d 0 bs n r d' → n ≤ length d → over bs d ≡ d'
put_over {d} {d'} {bs} {n} {r} p h = over_splice d bs (omega (arith, p.size)) ∙ sym p.is
