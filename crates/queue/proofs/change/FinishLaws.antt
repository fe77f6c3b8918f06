-- Finishing and forgetting: what stays, by the floor, and the loop that counts. Assumes nothing.
use Rattle.std.specs.Prelude.{◌≡◌, refl, Bool, true, false, cond, ◌||◌, ◌⊎◌, List, [], ◌∷◌, ◌++◌, ℕ, ◌+◌, ◌-◌, ◌≤◌, ◌<◌, ltb, leb, length, drop}
use Rattle.std.proofs.Common.{ap, sym, ◌∙◌, ⊎_elim, arith, zero-add, drop-drop, drop_at, lt-ltb, le-ltb, ltb-true, ltb-false, le-leb}
use Rattle.std.proofs.Math.Option.{Option, none, some}
use Rattle.queue.specs.Codec.{cases, All, pair_c, map_c, vec_c}
use Rattle.queue.specs.layout.FrameCodec.{id_c, rec_k, rec_c}
use Rattle.queue.specs.bytes.ReaderAs.{list_at}
use Rattle.queue.specs.layout.FormsCodec.{form_c, after_in_value}
use Rattle.queue.specs.layout.FrameAs.{times, heights, facts_of, SeenAs}
use Rattle.queue.specs.check.RulesAs.{time_due, height_due, weight, sum, due_f, above_f}
use Rattle.queue.specs.paper.Records.{Bytes, Id, Rec}
use Rattle.queue.specs.paper.Lists.{one, count, filter}
use Rattle.queue.specs.paper.Sound.{holder?, tombstones}
use Rattle.queue.specs.paper.Changing.{due?, reached?, finished, finish_those, higher, forget}
use Rattle.queue.specs.change.FinishAs.{picked, picked_s, Floors}
use Rattle.queue.specs.change.PlanAs.{stay_r}
use Rattle.queue.specs.declared.layout.frame.Seen.{Seen}
use Rattle.queue.specs.declared.check.rules.Query.TheVariants.{Tombstones}
use Rattle.queue.specs.declared.change.finish.Change.{Change}
use Rattle.queue.specs.declared.change.finish.Change.TheVariants.{Named, Due}
use Rattle.queue.proofs.layout.TurnLaws.{Scan, on, end, SeenIn, FoundRec, seen, see}
use Rattle.queue.specs.check.NumbersAs.{new_above_value, above}

-- ---- a record that was read is picked as the record is
time_is : (o : Option ℕ) (n : ℕ) → time_due (times o) n ≡ reached? o n
time_is none n = refl
time_is (some d) n = refl

height_is : (o : Option ℕ) (n : ℕ) → height_due (heights o) n ≡ reached? o n
height_is none n = refl
height_is (some d) n = refl

pub picked_is : (c : Change) (id : Id) {v : Bytes} {x : Seen} {r : Rec} → SeenAs v x r → picked_s c id x ≡ picked c id r
unfolding picked picked_s due_f due? facts_of
picked_is Named id w = rw w.id
picked_is (Due t h) id {v} {x} {r} w = ap (due_f t.0 h.0) w.facts ∙ rw (time_is r.terms.due t.0, height_is r.terms.due_height h.0)

-- ---- forgetting, by the floor
filter_low : (keep low : Rec → Bool) (l : List Rec) → All (λ r. holder? r ≡ false → keep r ≡ low r) l → filter (λ r. holder? r || keep r) l ≡ filter (λ r. holder? r || low r) l
filter_low keep low [] h = refl
filter_low keep low (r ∷ l) h = let i = filter_low keep low l h.1 in cases (holder? r)
    (λ t. rw (t, i))
    (λ t. rw (t, h.0 t, i))

pub forget_floor : (t floor : ℕ) (l : List Rec) → Floors t floor l → forget t l ≡ filter (stay_r floor) l
unfolding forget
forget_floor t floor l h = filter_low (λ r. ltb (higher r.finish l) t) (λ r. leb floor r.finish) l h

-- ---- how many tombstones are above a number
pub new_none : (num x : ℕ) → new_above_value num 0 x ≡ 0
unfolding new_above_value
new_none num x = cases (ltb x num)
    (λ t. rw t)
    (λ t. let k = ltb-false x num t in rw (t, le-ltb x (num + 0) (omega arith)))

pub new_one : (num k x : ℕ) → one (ltb x (num + 1)) + new_above_value (num + 1) k x ≡ new_above_value num (1 + k) x
unfolding new_above_value
new_one num k x = cases (ltb x num)
    (λ t. let h = ltb-true x num t in rw (t, lt-ltb x (num + 1) (omega arith)))
    (λ t. let h = ltb-false x num t in cases (ltb x (num + 1))
    (λ u. let g = ltb-true x (num + 1) u in rw (t, u, lt-ltb x (num + (1 + k)) (omega arith)) (omega arith))
    (λ u. let g = ltb-false x (num + 1) u in cases (ltb x (num + 1 + k))
    (λ w. let y = ltb-true x (num + 1 + k) w in rw (t, u, w, lt-ltb x (num + (1 + k)) (omega arith)) (omega arith))
    (λ w. let y = ltb-false x (num + 1 + k) w in rw (t, u, w, le-ltb x (num + (1 + k)) (omega arith)))))

abbrev pub Picks : (Rec → Bool) → List Rec → Type 0
Picks p l = All (λ r. p r ≡ true → holder? r ≡ true) l

pub above_finished : (p : Rec → Bool) (state reason n : ℕ) (l : List Rec) (x : ℕ) → Picks p l → higher x (finish_those p state reason n l) ≡ above n (count p l) l x
unfolding finish_those above sum weight above_f facts_of finished
above_finished p state reason n [] x h = sym (rw new_none)
above_finished p state reason n (r ∷ l) x h = cases (p r)
    (λ t.
    let i = above_finished p state reason (n + 1) l x h.1 in
    let b = h.0 t in
    let e = new_one n (count p l) x in
    rw (t, b) (omega arith))
    (λ t.
    let i = above_finished p state reason n l x h.1 in
    rw (t, zero-add) (omega arith))

pub tombs_finished : (p : Rec → Bool) (state reason n : ℕ) (l : List Rec) → Picks p l → tombstones (finish_those p state reason n l) ≡ tombstones l + count p l
unfolding finish_those finished
tombs_finished p state reason n [] h = refl
tombs_finished p state reason n (r ∷ l) h = cases (p r)
    (λ t. let i = tombs_finished p state reason (n + 1) l h.1 in let b = h.0 t in rw (t, b) (omega arith))
    (λ t. let i = tombs_finished p state reason n l h.1 in rw t (omega arith))

-- a tombstone isn't above itself
higher_few : (x : ℕ) (l : List Rec) → higher x l ≤ tombstones l
higher_few x [] = omega arith
higher_few x (r ∷ l) = let i = higher_few x l in cases (holder? r)
    (λ t. rw t (omega arith))
    (λ t. cases (ltb x r.finish) (λ u. rw (t, u) (omega arith)) (λ u. rw (t, u) (omega arith)))

own : (x : ℕ) (l : List Rec) → All (λ r. r.finish ≡ x → holder? r ≡ false → higher x l < tombstones l) l
own x [] = tt
own x (r ∷ l) =
    let f = higher_few x l in
    (λ e b. rw (b, le-ltb x r.finish (omega arith)) (omega arith), rest l (own x l))
  where
    rest : (k : List Rec) → All (λ y. y.finish ≡ x → holder? y ≡ false → higher x l < tombstones l) k → All (λ y. y.finish ≡ x → holder? y ≡ false → higher x (r ∷ l) < tombstones (r ∷ l)) k
    rest [] h = tt
    rest (y ∷ k) h = (
      λ e b. let g = h.0 e b in cases (holder? r)
          (λ t. rw t (omega arith))
          (λ t. cases (ltb x r.finish) (λ u. rw (t, u) (omega arith)) (λ u. rw (t, u) (omega arith))),
      rest k h.1,
    )

own_all : (l k : List Rec) → ((x : ℕ) → All (λ r. r.finish ≡ x → holder? r ≡ false → higher x l < tombstones l) k) → All (λ r. holder? r ≡ false → higher r.finish l < tombstones l) k
own_all l [] h = tt
own_all l (r ∷ k) h = (λ b. (h r.finish).0 refl b, own_all l k (λ x. (h x).1))

all_any : {A : Type 0} {P : A → Type 0} (l : List A) → ((a : A) → P a) → All P l
all_any [] f = tt
all_any (a ∷ l) f = (f a, all_any l f)

all_to : {A : Type 0} {P Q : A → Type 0} (l : List A) → ((a : A) → P a → Q a) → All P l → All Q l
all_to [] f h = tt
all_to (a ∷ l) f h = (f a h.0, all_to l f h.1)

tombs_sum : (l : List Rec) → sum Tombstones l ≡ tombstones l
unfolding sum weight facts_of
tombs_sum l = refl

pub zero_leb : (n : ℕ) → leb 0 n ≡ true
zero_leb n = le-leb 0 n (omega arith)

-- the floor of l parts the tombstones of a list m that has those of l and k more, with the numbers after n
pub floors_of : (n k t floor : ℕ) (l m : List Rec) → tombstones m ≡ tombstones l + k → ((x : ℕ) → higher x m ≡ above n k l x)
    → ((sum Tombstones l + k ≤ t) × (floor ≡ 0)) ⊎ ((x : ℕ) → ltb (above n k l x) t ≡ leb floor x)
    → Floors t floor m
floors_of n k t floor l m e h = ⊎_elim
    (λ w.
    let f = tombs_sum l in
    all_to m (λ r g b. let i = g b in rw (w.1, zero_leb r.finish) (lt-ltb (higher r.finish m) t (omega (arith, w.0)))) (own_all m m (λ x. own x m)))
    (λ w. all_any m (λ r b. ap (λ y. ltb y t) (h r.finish) ∙ w r.finish))

pub floors : (p : Rec → Bool) (state reason n t floor : ℕ) (l : List Rec) → Picks p l
    → ((sum Tombstones l + count p l ≤ t) × (floor ≡ 0)) ⊎ ((x : ℕ) → ltb (above n (count p l) l x) t ≡ leb floor x)
    → Floors t floor (finish_those p state reason n l)
floors p state reason n t floor l h =
    floors_of n (count p l) t floor l (finish_those p state reason n l) (tombs_finished p state reason n l h) (λ x. above_finished p state reason n l x h)

-- ---- counting those picked
unfoldable pub hits_from : Change → Id → ℕ → List Rec → ℕ
hits_from c id acc l = acc + count (picked c id) l

pub raw_after : (s : Bytes) (i n : ℕ) → i + n ≡ after_in_value false s i n
unfolding after_in_value
raw_after s i n = refl

module _ (c : Change) (id : Id) {s : Bytes} {n at i left acc : ℕ} (x : Scan (form_c false rec_c) (hits_from c id) s n at 0 i left acc) where
  pub hits_next : {m : ℕ} {y : Seen} → 0 < left → FoundRec false s i m y → i + m ≤ length s
  hits_next {m} p r = rw (raw_after s i m) (seen false x p r).within

  pub hits_go : {m w : ℕ} {b : Bool} {y : Seen} → 0 < left → FoundRec false s i m y → b ≡ picked_s c id y → w ≡ cond b 1 0 → Scan (form_c false rec_c) (hits_from c id) s n at 0 (i + m) (left - 1) (acc + w)
  unfolding hits_from
  hits_go {m} {w} {b} {y} p r e f =
      let t = see false x p r (raw_after s i m) in
      let g : b ≡ picked c id t.item = e ∙ picked_is c id t.is.0 in
      on x (acc + w) p t (rw (f, g) (omega arith))

  pub hits_end : left ≡ 0 → acc ≡ count (picked c id) (list_at (form_c false rec_c) n s at)
  unfolding hits_from
  hits_end z = let e = end x z in omega arith

-- ---- bytes
pub cut_one : (v x y : Bytes) (k : ℕ) → drop k v ≡ x ++ y → length x ≡ 1 → drop (k + 1) v ≡ y
cut_one v x y k e h = sym (drop-drop 1 k v) ∙ ap (drop 1) e ∙ drop_at x y 1 h

pub id_32 : (r : Rec) → rec_c.ok r → length r.id ≡ 32
unfolding rec_k map_c pair_c id_c vec_c
id_32 r h = h.1.0.1

pub id_long : {s : Bytes} {i m : ℕ} {x : Seen} {r : Rec} → SeenIn false s i m x r → length x.id ≡ 32
id_long {r = r} w = ap length w.0.id ∙ id_32 r w.1.fine

pub raw_within : {s : Bytes} {i m : ℕ} {x : Seen} {r : Rec} → SeenIn false s i m x r → i + m ≤ length s
unfolding after_in_value
raw_within w = w.1.after
