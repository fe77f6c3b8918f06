-- The laws of the suspects: what a look through the rows says of the records, the loops that gather rows. Assumes nothing.
use Rattle.std.specs.Prelude.{◌≡◌, refl, Bool, true, false, not, ◌&&◌, ◌||◌, List, [], ◌∷◌, ◌++◌, ℕ, zero, suc, ◌+◌, ◌-◌, ◌≤◌, ◌<◌, ltb, eqb, length, take, drop, get_or, set, Option, Some, None, IsSome}
use Rattle.std.proofs.Common.{ap, sym, ◌∙◌, subst, inl, inr, ⊎_elim, arith, add-one, length-drop, length-append, drop-drop, take_all, take_at, take-suc-set, length-take-le, ne_eqb, ltb-true, ltb-false, lt-ltb, leb-true, le-leb}
use Rattle.queue.specs.Basics.{or_right, any_count}
use Rattle.queue.specs.Codec.{cases, encs, byte_c, vec_c}
use Rattle.queue.specs.bytes.Parts.{part}
use Rattle.queue.specs.Lists.{and_true, and_both}
use Rattle.queue.specs.bytes.OrderLaws.{same_is, same_self, same_sym, or_true, or_false}
use Rattle.queue.specs.layout.FrameCodec.{id_c, spans_id}
use Rattle.queue.specs.layout.FormsCodec.{rec_in_value, after_in_value}
use Rattle.queue.specs.bytes.ViewAs.{view}
use Rattle.queue.specs.bytes.ReaderAs.{Found, whole, list_at}
use Rattle.queue.specs.bytes.ReaderLaws.{Turn, turn, none_left, false_true}
use Rattle.queue.specs.check.FilterAs.{hash_l, marked, mark_l, has_in}
use Rattle.queue.specs.check.SuspectsAs.{id_r, no_r, later, meets, crosses, held?, first?, Shuffled, Full, Grown, Twice, Noted, Said, AllMarked, Owned}
use Rattle.queue.specs.paper.Records.{Bytes, Id, Rec}
use Rattle.queue.specs.paper.Ids.{same?}
use Rattle.queue.specs.paper.Lists.{one, any?, all?, count}
use Rattle.queue.specs.paper.Sound.{inputs, among?, used?, apart?}
use Rattle.queue.specs.declared.layout.frame.Form.{Form}
use Rattle.queue.specs.declared.layout.frame.Seen.{Seen}
use Rattle.queue.proofs.bytes.ReadLaws.{bytes_enc}
use Rattle.queue.proofs.layout.TurnLaws.{Scan, here, on, stop, end, FoundForm, seen_in, see_in}
use Rattle.queue.proofs.check.ScanLaws.{nothing_f}
use Rattle.queue.proofs.check.FilterLaws.{mark_size, mark_here, mark_old, used_none, apart_yes, apart_no}

-- ---- an id that is read: its bytes
pub id_bytes : {v : Bytes} {n i next : ℕ} {y : Id} → Turn id_c v n i next (λ w. w ≡ y) → (part 32 v i ≡ y) × (i + 32 ≤ length v)
unfolding id_c vec_c part
id_bytes {v} {n} {i} {next} {y} t =
    let b = id_c.bwd (drop i v) t.item (drop next v) t.here in
    let z = spans_id.size t.item b.1 in
    let e = ap length b.0 ∙ length-append (encs byte_c t.item) (drop next v) in
    (ap (take 32) b.0 ∙ take_at (encs byte_c t.item) (drop next v) 32 z ∙ bytes_enc t.item ∙ t.is, omega (arith, length-drop i v))

-- ---- any and all
module _ (p : ℕ → Bool) where
  any_at : (v : List ℕ) (i : ℕ) → any? p v ≡ false → i < length v → p (get_or v i 0) ≡ false
  any_at [] i e h = absurd (let z : ⊥ = omega arith in z)
  any_at (x ∷ v) zero e h = (or_false (p x) (any? p v) e).0
  any_at (x ∷ v) (suc i) e h = any_at v i (or_false (p x) (any? p v) e).1 (omega arith)

  any_by : {X : Type 0} (v : List ℕ) → any? p v ≡ true → ((i : ℕ) → i < length v → p (get_or v i 0) ≡ true → X) → X
  any_by [] e k = false_true e
  any_by (x ∷ v) e k = or_true (p x) (any? p v) e (λ t. k 0 (omega arith) t) (λ _ t. any_by v t (λ i h. k (suc i) (omega arith)))

  pub all_each : (v : List ℕ) → ((i : ℕ) → i < length v → p (get_or v i 0) ≡ true) → all? p v ≡ true
  all_each [] k = refl
  all_each (x ∷ v) k = and_both (p x) (all? p v) (k 0 (omega arith)) (all_each v (λ i h. k (suc i) (omega arith)))

  pub all_at : (v : List ℕ) (i : ℕ) → all? p v ≡ true → i < length v → p (get_or v i 0) ≡ true
  all_at [] i e h = absurd (let z : ⊥ = omega arith in z)
  all_at (x ∷ v) zero e h = (and_true (p x) (all? p v) e).0
  all_at (x ∷ v) (suc i) e h = all_at v i (and_true (p x) (all? p v) e).1 (omega arith)

  all_count : (v : List ℕ) → all? p v ≡ eqb (count (λ a. not (p a)) v) 0
  all_count [] = refl
  all_count (x ∷ v) =
      let n = count (λ a. not (p a)) v in
      let e : n ≡ 0 + n = omega arith in
      cases (p x) (λ t. rw t (all_count v ∙ ap (λ (m : ℕ). eqb m 0) e)) (λ t. rw t (sym (ne_eqb (1 + n) 0 (λ z. let y : ⊥ = omega arith in y))))

  pub shuffled_all : {v w : List ℕ} → Shuffled v w → all? p w ≡ all? p v
  shuffled_all {v} {w} s = all_count w ∙ ap (λ (n : ℕ). eqb n 0) (s.same (λ a. one (not (p a)))) ∙ sym (all_count v)

  pub shuffled_any : {v w : List ℕ} → Shuffled v w → any? p w ≡ any? p v
  shuffled_any {v} {w} s = any_count p w ∙ ap (λ (n : ℕ). ltb 0 n) (s.same (λ a. one (p a))) ∙ sym (any_count p v)

  pub all_append : (a b : List ℕ) → all? p (a ++ b) ≡ (all? p a && all? p b)
  all_append [] b = refl
  all_append (x ∷ a) b = cases (p x) (λ t. rw t (all_append a b)) (λ t. rw t)

count_drop : (p : Rec → Bool) (m : ℕ) (l : List Rec) → count p (drop m l) ≤ count p l
count_drop p zero l = omega arith
count_drop p (suc m) [] = omega arith
count_drop p (suc m) (r ∷ l) = let h = count_drop p m l in omega arith

drop_next : (k : ℕ) (all : List Rec) {r : Rec} {l : List Rec} → drop k all ≡ r ∷ l → drop (k + 1) all ≡ l
drop_next k all e = sym (drop-drop 1 k all) ∙ ap (drop 1) e

-- ---- a look through the rows
module _ (hex : Bool) (s : Bytes) (v : List ℕ) where
  -- no id of these is a row's of a later record
  meets_no : (k : ℕ) (ids : List Id) (i : ℕ) → meets hex s v k ids ≡ false → i < length v → k < no_r (get_or v i 0) → among? (id_r hex s (get_or v i 0)) ids ≡ false
  unfolding meets later
  meets_no k [] i e h l = refl
  meets_no k (z ∷ ids) i e h l =
      let x = get_or v i 0 in
      let u = or_false (any? (later hex s z k) v) (meets hex s v k ids) e in
      let q : (same? z (id_r hex s x) && ltb k (no_r x)) ≡ false = any_at (later hex s z k) v i u.0 h in
      let g : same? z (id_r hex s x) ≡ false = cases (same? z (id_r hex s x)) (λ t. false_true (sym (rw (t, lt-ltb k (no_r x) l) at q))) (λ t. t) in
      rw (same_sym (id_r hex s x) z, g) (meets_no k ids i u.1 h l)

  pub meets_yes : {X : Type 0} (k : ℕ) (ids : List Id) → meets hex s v k ids ≡ true → ((i : ℕ) → i < length v → among? (id_r hex s (get_or v i 0)) ids ≡ true → k < no_r (get_or v i 0) → X) → X
  unfolding meets later
  meets_yes k [] e f = false_true e
  meets_yes k (z ∷ ids) e f = or_true (any? (later hex s z k) v) (meets hex s v k ids) e
      (λ t. any_by (later hex s z k) v t (λ i h q.
      let x = get_or v i 0 in
      let u = and_true (same? z (id_r hex s x)) (ltb k (no_r x)) q in
      f i h (rw (same_sym (id_r hex s x) z, u.0)) (ltb-true k (no_r x) u.1)))
      (λ _ t. meets_yes k ids t (λ i h a l. f i h (or_right (same? (id_r hex s (get_or v i 0)) z) a) l))

  crosses_no : (i : ℕ) → i < length v → (k : ℕ) (l : List Rec) → crosses hex s v k l ≡ false
      → count (has_in (id_r hex s (get_or v i 0))) l ≤ count (has_in (id_r hex s (get_or v i 0))) (drop (no_r (get_or v i 0) - k) l)
  unfolding crosses
  crosses_no i h k [] e = omega arith
  crosses_no i h k (r ∷ l) e =
      let x = get_or v i 0 in
      let u = or_false (meets hex s v k (inputs r.body)) (crosses hex s v (k + 1) l) e in
      cases (ltb k (no_r x))
      (λ t.
      let b = ltb-true k (no_r x) t in
      let q = meets_no k (inputs r.body) i u.0 h b in
      let j = crosses_no i h (k + 1) l u.1 in
      let n : no_r x - k ≡ suc (no_r x - (k + 1)) = omega arith in
      rw (n, q) (omega arith))
      (λ t. let b = ltb-false k (no_r x) t in let n : no_r x - k ≡ 0 = omega arith in rw n (omega arith))

  pub all_first : (all : List Rec) → crosses hex s v 0 all ≡ false → all? (first? hex s all) v ≡ true
  unfolding first?
  all_first all e = all_each (first? hex s all) v (λ i h.
      let x = get_or v i 0 in
      let n : no_r x - 0 ≡ no_r x = omega arith in
      le-leb (count (has_in (id_r hex s x)) all) (count (has_in (id_r hex s x)) (drop (no_r x) all)) (rw n at (crosses_no i h 0 all e)))

  pub crosses_yes : (all : List Rec) → all? (held? hex s all) v ≡ true → (k : ℕ) (l : List Rec) → drop k all ≡ l → crosses hex s v k l ≡ true → apart? all ≡ false
  unfolding crosses held?
  crosses_yes all a k [] d e = false_true e
  crosses_yes all a k (r ∷ l) d e = or_true (meets hex s v k (inputs r.body)) (crosses hex s v (k + 1) l) e
      (λ t. meets_yes k (inputs r.body) t (λ i h m b.
      let x = get_or v i 0 in
      let z = id_r hex s x in
      let g = ltb-true 0 (count (has_in z) (drop (no_r x) all)) (all_at (held? hex s all) v i a h) in
      let n : k + 1 + (no_r x - (k + 1)) ≡ no_r x = omega arith in
      let f : drop (no_r x - (k + 1)) l ≡ drop (no_r x) all = ap (drop (no_r x - (k + 1))) (sym (drop_next k all d)) ∙ drop-drop (no_r x - (k + 1)) (k + 1) all ∙ rw n in
      let o : count (has_in z) (drop (no_r x) all) ≤ count (has_in z) l = rw f at (count_drop (has_in z) (no_r x - (k + 1)) l) in
      let w : count (has_in z) (r ∷ l) ≡ 1 + count (has_in z) l = rw m in
      let c : count (has_in z) (r ∷ l) ≤ count (has_in z) all = rw d at (count_drop (has_in z) k all) in
      sym (apart_no all z (omega arith))))
      (λ _ t. crosses_yes all a (k + 1) l (drop_next k all d) t)

-- rows in another order, and no rows
module _ (hex : Bool) (s : Bytes) where
  meets_shuffled : {v w : List ℕ} → Shuffled v w → (k : ℕ) (ids : List Id) → meets hex s w k ids ≡ meets hex s v k ids
  unfolding meets
  meets_shuffled q k [] = refl
  meets_shuffled q k (z ∷ ids) = rw (shuffled_any (later hex s z k) q, meets_shuffled q k ids)

  crosses_shuffled : {v w : List ℕ} → Shuffled v w → (k : ℕ) (l : List Rec) → crosses hex s w k l ≡ crosses hex s v k l
  unfolding crosses
  crosses_shuffled q k [] = refl
  crosses_shuffled q k (r ∷ l) = rw (meets_shuffled q k (inputs r.body), crosses_shuffled q (k + 1) l)

  meets_none : (k : ℕ) (ids : List Id) → meets hex s [] k ids ≡ false
  unfolding meets
  meets_none k [] = refl
  meets_none k (z ∷ ids) = meets_none k ids

  crosses_none : (k : ℕ) (l : List Rec) → crosses hex s [] k l ≡ false
  unfolding crosses
  crosses_none k [] = refl
  crosses_none k (r ∷ l) = rw (meets_none k (inputs r.body)) (crosses_none (k + 1) l)

  pub looked : (all : List Rec) {v v' : List ℕ} {b : Bool} → Shuffled v v' → b ≡ crosses hex s v' 0 all → b ≡ crosses hex s v 0 all
  looked all q e = e ∙ crosses_shuffled q 0 all

  pub looked_none : (all : List Rec) (v : List ℕ) → length v ≡ 0 → false ≡ crosses hex s v 0 all
  looked_none all [] e = sym (crosses_none 0 all)
  looked_none all (x ∷ v) e = absurd (let z : ⊥ = omega arith in z)

-- ---- the loops of a look
unfoldable pub meets_f : Bool → Bytes → List ℕ → ℕ → Unit {0} → List Id → Bool
meets_f hex s v k u l = meets hex s v k l

module _ (hex : Bool) (s : Bytes) (w : List ℕ) (k : ℕ) {v : Bytes} {n at i left : ℕ} (x : Scan id_c (meets_f hex s w k) v n at tt i left tt) where
  module _ {next : ℕ} {b : Bool} {y : Id} (z : ℕ) (h : 0 < left) (r : Found id_c v i next (λ a. a ≡ y)) (p : id_r hex s z ≡ part 32 v i) (q : no_r z ≡ k) (e : b ≡ any? (later hex s (id_r hex s z) (no_r z)) w) where
    its : b ≡ any? (later hex s y k) w
    its = e ∙ rw (q, p, (id_bytes (here x h r)).0)

    pub meets_go : b ≡ false → Scan id_c (meets_f hex s w k) v n at tt next (left - 1) tt
    unfolding meets_f meets
    meets_go f = let t = here x h r in on x tt h t (rw (t.is, ← its, f))

    pub meets_stop : b ≡ true → true ≡ meets hex s w k (list_at id_c n v at)
    unfolding meets_f meets
    meets_stop f = let t = here x h r in stop x t (rw (t.is, ← its, f))

  pub meets_end : left ≡ 0 → false ≡ meets hex s w k (list_at id_c n v at)
  unfolding meets_f meets
  meets_end e = end x e

module _ (form : Form) (w : List ℕ) {s : Bytes} {n at i left k : ℕ} (x : Scan (rec_in_value form) (crosses form.hex s w) s n at 0 i left k) where
  module _ {m : ℕ} {b : Bool} {y : Seen} (h : 0 < left) (r : FoundForm form s i m y) (e : b ≡ meets form.hex s w k (list_at id_c y.facts.ins (view form.hex s i) y.at)) where
    pub crosses_go : {j : ℕ} → j ≡ after_in_value form.hex s i m → b ≡ false → Scan (rec_in_value form) (crosses form.hex s w) s n at 0 j (left - 1) (k + 1)
    unfolding crosses
    crosses_go g f = let t = see_in form x h r g in on x (k + 1) h t (rw (← t.is.0.ins_list, ← e, f))

    pub crosses_stop : b ≡ true → true ≡ crosses form.hex s w 0 (list_at (rec_in_value form) n s at)
    unfolding crosses
    crosses_stop f = let t = seen_in form x h r in stop x t (rw (← t.is.0.ins_list, ← e, f))

  pub crosses_end : left ≡ 0 → false ≡ crosses form.hex s w 0 (list_at (rec_in_value form) n s at)
  unfolding crosses
  crosses_end e = end x e

-- ---- a row more
module _ {hex : Bool} {s : Bytes} {all : List Rec} {w : ℕ} where
  pub grown_room : (v : List ℕ) {v' : List ℕ} (m : ℕ) → m < length v → v' ≡ set v m w → Grown hex s all (take m v) w (take (m + 1) v')
  grown_room v m h e = record { good = inl (ap (take (m + 1)) e ∙ rw add-one (take-suc-set v m w h)) }

  pub grown_new : (v : List ℕ) {b : Bool} → b ≡ crosses hex s v 0 all → (m : ℕ) → length v ≤ m → {v' v'' : List ℕ} → Shuffled v v' → b ≡ false → 0 < length v' → v'' ≡ set v' 0 w → Grown hex s all (take m v) w (take 1 v'')
  grown_new v l m h {v'} _ t p e = record { good = inr (ap (take 1) e ∙ take-suc-set v' 0 w p, rw (take_all m v h) (sym l ∙ t)) }

  -- what holds of each row; and what holds of each once the rows are looked through
  module _ {z z' : List ℕ} (g : Grown hex s all z w z') where
    pub grown_all : (p : ℕ → Bool) → all? p z ≡ true → p w ≡ true → all? p z' ≡ true
    grown_all p a b =
        let o : all? p (w ∷ []) ≡ true = rw b in
        ⊎_elim (λ e. ap (all? p) e ∙ all_append p z (w ∷ []) ∙ and_both (all? p z) (all? p (w ∷ [])) a o) (λ e. ap (all? p) e.0 ∙ o) g.good

    pub grown_back : (q : ℕ → Bool) → (crosses hex s z 0 all ≡ false → all? q z ≡ true) → all? q z' ≡ true → (all? q z ≡ true) × (q w ≡ true)
    grown_back q k a = ⊎_elim
        (λ e. let u = and_true (all? q z) (all? q (w ∷ [])) (sym (ap (all? q) e ∙ all_append q z (w ∷ [])) ∙ a) in (u.0, (and_true (q w) true u.1).0))
        (λ e. (k e.1, (and_true (q w) true (sym (ap (all? q) e.0) ∙ a)).0))
        g.good

pub grown_bad : {last hex : Bool} {s : Bytes} {all : List Rec} (v : List ℕ) {b : Bool} → b ≡ crosses hex s v 0 all → (m : ℕ) → length v ≤ m → b ≡ true → Full last hex s all (take m v)
grown_bad v l m h t = record { bad = λ _. rw (take_all m v h) (sym l ∙ t) }

pub grown_out : {last hex : Bool} {s : Bytes} {all : List Rec} {z : List ℕ} → last ≡ false → Full last hex s all z
grown_out e = record { bad = λ t. false_true (sym e ∙ t) }

-- ---- one id
pub full_twice : {last hex : Bool} {s : Bytes} {all : List Rec} {z : List ℕ} (t : List ℕ) → all? (held? hex s all) z ≡ true → Full last hex s all z → Twice last all t t
full_twice {hex = hex} {s} {all} {z} t a g = record { size = refl; old = λ _ m. m; bad = λ l. crosses_yes hex s z all a 0 all refl (g.bad l) }

pub held_row : (hex : Bool) (s : Bytes) (all : List Rec) (k w : ℕ) (y : Id) → id_r hex s w ≡ y → no_r w ≡ k → Owned all k (same? y) → held? hex s all w ≡ true
unfolding held?
held_row hex s all k w y e f o = rw (e, f) (lt-ltb 0 (count (has_in y) (drop k all)) (o y (same_self y)))

module _ {hex : Bool} {s : Bytes} {all : List Rec} {k : ℕ} (y : Id) {t z : List ℕ} {h : ℕ} (e : h ≡ hash_l y) {b : Bool} (q : b ≡ marked t h) where
  module _ {w : ℕ} (f : b ≡ true) (i : id_r hex s w ≡ y) (n : no_r w ≡ k) (a : all? (held? hex s all) z ≡ true) (d : held? hex s all w ≡ true) where
    pub row_noted : {z' : List ℕ} → Grown hex s all z w z' → Noted hex s all k (same? y) t z t z'
    unfolding first?
    row_noted {z'} g =
        let back : all? (first? hex s all) z' ≡ true → (all? (first? hex s all) z ≡ true) × (first? hex s all w ≡ true) = λ c. grown_back g (first? hex s all) (all_first hex s z all) c in
        record {
          size = refl;
          old = λ _ m. m;
          held = grown_all g (held? hex s all) a d;
          back = λ c. (back c).0;
          one = λ c x u _. subst (λ (d : Id). count (has_in d) all ≤ count (has_in d) (drop k all)) (same_is y x u) (leb-true (count (has_in y) all) (count (has_in y) (drop k all)) (rw (i, n) at (back c).1));
          new = λ x u. subst (λ (d : Id). marked t (hash_l d) ≡ true) (same_is y x u) (sym (q ∙ ap (marked t) e) ∙ f);
        }

  pub note_new : {t' : List ℕ} → b ≡ false → 0 < length t → t' ≡ mark_l t h → all? (held? hex s all) z ≡ true → Noted hex s all k (same? y) t z t' z
  note_new {t'} f p g a = record {
    size = ap length g ∙ mark_size t h;
    old = λ d m. ap (λ (v : List ℕ). marked v d) g ∙ mark_old t h p d m;
    held = a;
    back = λ d. d;
    one = λ _ x u m. false_true (sym f ∙ q ∙ ap (marked t) e ∙ ap (λ (d : Id). marked t (hash_l d)) (same_is y x u) ∙ m);
    new = λ x u. subst (λ (d : Id). marked t' (hash_l d) ≡ true) (same_is y x u) (ap (λ (v : List ℕ). marked v (hash_l y)) g ∙ ap (marked (mark_l t h)) (sym e) ∙ mark_here t h p);
  }

-- ---- the ids of a record: those before i are passed
pub record Noting (hex : Bool) (s : Bytes) (all : List Rec) (k : ℕ) (v : Bytes) (own : List Id) (t₀ z₀ : List ℕ) (i left : ℕ) (t z : List ℕ) : Type 0 where
  pub within : i ≤ length v
  pub whole : whole id_c left v i ≡ true
  pub part : (x : Id) → among? x (list_at id_c left v i) ≡ true → among? x own ≡ true
  pub size : length t ≡ length t₀
  pub old : (h : ℕ) → marked t₀ h ≡ true → marked t h ≡ true
  pub held : all? (held? hex s all) z ≡ true
  pub back : all? (first? hex s all) z ≡ true → all? (first? hex s all) z₀ ≡ true
  pub one : all? (first? hex s all) z ≡ true → (x : Id) → among? x own ≡ true → among? x (list_at id_c left v i) ≡ false → marked t₀ (hash_l x) ≡ true → count (has_in x) all ≤ count (has_in x) (drop k all)
  pub new : (x : Id) → among? x own ≡ true → among? x (list_at id_c left v i) ≡ false → marked t (hash_l x) ≡ true

pub noting : (hex : Bool) (s : Bytes) (all : List Rec) (k : ℕ) (v : Bytes) (m at : ℕ) (t z : List ℕ) → at ≤ length v → whole id_c m v at ≡ true → all? (held? hex s all) z ≡ true → Noting hex s all k v (list_at id_c m v at) t z at m t z
noting hex s all k v m at t z h w a =
    record { within = h; whole = w; part = λ x p. p; size = refl; old = λ _ m. m; held = a; back = λ f. f; one = λ _ x a n _. false_true (sym n ∙ a); new = λ x a n. false_true (sym n ∙ a) }

module _ {hex : Bool} {s : Bytes} {all : List Rec} {k : ℕ} {v : Bytes} {own : List Id} {t₀ z₀ : List ℕ} {i left : ℕ} {t z : List ℕ} (x : Noting hex s all k v own t₀ z₀ i left t z) where
  module _ {next : ℕ} {y : Id} (p : 0 < left) (r : Found id_c v i next (λ w. w ≡ y)) where
    pub noting_turn : Turn id_c v left i next (λ w. w ≡ y)
    noting_turn = turn left x.whole p r

    rest_is : (d : Id) → among? d (list_at id_c left v i) ≡ (same? y d || among? d (list_at id_c (left - 1) v next))
    rest_is d = let u = noting_turn in rw (u.list, u.is, same_sym d y)

    pub noting_own : Owned all k (λ d. among? d own) → Owned all k (same? y)
    noting_own o d e = o d (x.part d (rw (rest_is d, e)))

    module _ {t' z' : List ℕ} (g : Noted hex s all k (same? y) t z t' z') where
      split : {X : Type 0} (d : Id) → among? d (list_at id_c (left - 1) v next) ≡ false → (same? y d ≡ true → X) → (among? d (list_at id_c left v i) ≡ false → X) → X
      split d n f j = cases (same? y d) (λ q. f q) (λ q. j (rw (rest_is d, q) n))

      pub noting_go : Noting hex s all k v own t₀ z₀ next (left - 1) t' z'
      noting_go =
          let u = noting_turn in
          record {
            within = u.within;
            whole = u.rest;
            part = λ d q. x.part d (rest_is d ∙ or_right (same? y d) q);
            size = g.size ∙ x.size;
            old = λ h m. g.old h (x.old h m);
            held = g.held;
            back = λ a. x.back (g.back a);
            one = λ a d o n m. split d n (λ q. g.one a d q (x.old (hash_l d) m)) (λ q. x.one (g.back a) d o q m);
            new = λ d o n. split d n (λ q. g.new d q) (λ q. g.old (hash_l d) (x.new d o q));
          }

  pub noting_stop : {last : Bool} {t' : List ℕ} → Twice last all t t' → Twice last all t₀ t'
  noting_stop g = record { size = g.size ∙ x.size; old = λ h m. g.old h (x.old h m); bad = g.bad }

  pub noting_end : left ≡ 0 → Noted hex s all k (λ d. among? d own) t₀ z₀ t z
  noting_end e =
      let n : (d : Id) → among? d (list_at id_c left v i) ≡ false = λ d. ap (among? d) (none_left id_c v left i e).0 in
      record { size = x.size; old = x.old; held = x.held; back = x.back; one = λ a d o m. x.one a d o (n d) m; new = λ d o. x.new d o (n d) }

-- ---- the records: those before rest are passed, if the rows are
pub record Gone (hex : Bool) (s : Bytes) (all rest : List Rec) (t z : List ℕ) : Type 0 where
  pub met : (x : Id) → count (has_in x) rest < count (has_in x) all → marked t (hash_l x) ≡ true
  pub few : all? (first? hex s all) z ≡ true → (x : Id) → count (has_in x) all ≤ 1 + count (has_in x) rest
  pub held : all? (held? hex s all) z ≡ true

pub gone_start : (hex : Bool) (s : Bytes) (all : List Rec) (t : List ℕ) → Gone hex s all all t []
gone_start hex s all t = record { met = λ x q. absurd (let z : ⊥ = omega arith in z); few = λ _ x. omega arith; held = refl }

module _ {hex : Bool} {s : Bytes} {all : List Rec} (r : Rec) (l : List Rec) {k : ℕ} {t z t' z' : List ℕ} (d : drop k all ≡ r ∷ l) (w : Gone hex s all (r ∷ l) t z) (g : Noted hex s all k (λ x. has_in x r) t z t' z') where
  gone_go : Gone hex s all l t' z'
  gone_go = record {
    met = λ x q. cases (has_in x r)
        (λ a. g.new x a)
        (λ a. g.old (hash_l x) (w.met x (rw a (omega arith))));
    few = λ u x. cases (has_in x r)
        (λ a. cases (marked t (hash_l x))
        (λ m. let h = rw (d, a) at (g.one u x a m) in omega arith)
        (λ m. cases (ltb (1 + count (has_in x) l) (count (has_in x) all))
        (λ c. let h = ltb-true (1 + count (has_in x) l) (count (has_in x) all) c in false_true (sym m ∙ w.met x (rw a h)))
        (λ c. ltb-false (1 + count (has_in x) l) (count (has_in x) all) c)))
        (λ a. let h = rw a at (w.few (g.back u) x) in omega arith);
    held = g.held;
  }

gone_end : {hex : Bool} {s : Bytes} {all : List Rec} {t z : List ℕ} {b : Bool} → Gone hex s all [] t z → b ≡ crosses hex s z 0 all → not b ≡ apart? all
gone_end {hex} {s} {all} {t} {z} {b = true} w l = sym (crosses_yes hex s z all w.held 0 all refl (sym l))
gone_end {hex} {s} {all} {t} {z} {b = false} w l = apart_yes all (λ x. let h = w.few (all_first hex s z all (sym l)) x in omega arith)

used_count : (x : Id) (l : List Rec) → used? x l ≡ true → 0 < count (has_in x) l
used_count x l u = cases (ltb 0 (count (has_in x) l))
    (λ t. ltb-true 0 (count (has_in x) l) t)
    (λ t. let h = ltb-false 0 (count (has_in x) l) t in false_true (sym (used_none x l (omega arith)) ∙ u))

gone_all : {hex : Bool} {s : Bytes} {all : List Rec} {t z : List ℕ} → Gone hex s all [] t z → AllMarked all t
gone_all {all = all} w = record { each = λ x u. w.met x (used_count x all u) }

-- ---- the loop over the records
noted_own : {hex : Bool} {s : Bytes} {all : List Rec} {k : ℕ} {own : Id → Bool} (own' : Id → Bool) {t z t' z' : List ℕ} → ((x : Id) → own x ≡ own' x) → Noted hex s all k own t z t' z' → Noted hex s all k own' t z t' z'
noted_own own' e g = record { size = g.size; old = g.old; held = g.held; back = g.back; one = λ a x o. g.one a x (e x ∙ o); new = λ x o. g.new x (e x ∙ o) }

module _ (form : Form) {s : Bytes} {n at i left : ℕ} (k : ℕ) (x : Scan (rec_in_value form) nothing_f s n at tt i left tt) (d : drop k (list_at (rec_in_value form) n s at) ≡ list_at (rec_in_value form) left s i) where
  module _ {m : ℕ} {y : Seen} (p : 0 < left) (r : FoundForm form s i m y) where
    pub gone_own : Owned (list_at (rec_in_value form) n s at) k (λ z. among? z (list_at id_c y.facts.ins (view form.hex s i) y.at))
    gone_own z e =
        let u = seen_in form x p r in
        let a : has_in z u.item ≡ true = ap (among? z) (sym u.is.0.ins_list) ∙ e in
        rw (d, u.list, a) (omega arith)

    module _ {t z t' z' : List ℕ} (w : Gone form.hex s (list_at (rec_in_value form) n s at) (list_at (rec_in_value form) left s i) t z)
        (g : Noted form.hex s (list_at (rec_in_value form) n s at) k (λ c. among? c (list_at id_c y.facts.ins (view form.hex s i) y.at)) t z t' z') where
      pub gone_on : {j : ℕ} → j ≡ after_in_value form.hex s i m → Scan (rec_in_value form) nothing_f s n at tt j (left - 1) tt × (drop (k + 1) (list_at (rec_in_value form) n s at) ≡ list_at (rec_in_value form) (left - 1) s j) × Gone form.hex s (list_at (rec_in_value form) n s at) (list_at (rec_in_value form) (left - 1) s j) t' z'
      unfolding nothing_f
      gone_on {j} e =
          let u = see_in form x p r e in (
            on x tt p u refl,
            drop_next k (list_at (rec_in_value form) n s at) (d ∙ u.list),
            gone_go u.item (list_at (rec_in_value form) (left - 1) s j) (d ∙ u.list) (rw u.list at w) (noted_own (λ c. has_in c u.item) (λ c. ap (among? c) u.is.0.ins_list) g),
          )

  module _ {t z : List ℕ} (e : left ≡ 0) (w : Gone form.hex s (list_at (rec_in_value form) n s at) (list_at (rec_in_value form) left s i) t z) where
    pub gone_last : {b : Bool} → b ≡ crosses form.hex s z 0 (list_at (rec_in_value form) n s at) → not b ≡ apart? (list_at (rec_in_value form) n s at)
    gone_last l = gone_end (rw (none_left (rec_in_value form) s left i e).0 at w) l

    pub gone_marks : AllMarked (list_at (rec_in_value form) n s at) t
    gone_marks = gone_all (rw (none_left (rec_in_value form) s left i e).0 at w)

-- ---- what is said in the end
module _ {last c : Bool} where
  pub said : {b : Bool} → b ≡ c → Said last c (Some b)
  said e = record { is = e }

  pub said_out : last ≡ false → Said last c None
  said_out e = record { is = e }

  pub said_any : {r : Option Bool} → Said last c r → Said false c r
  said_any {r = None} s = record { is = refl }
  said_any {r = Some b} s = record { is = s.is }

-- the last table says it
pub said_sure : {c : Bool} {r : Option Bool} → Said true c r → IsSome r
said_sure {r = None} s = false_true (sym s.is)
said_sure {r = Some b} s = refl

pub said_is : {c b : Bool} {r : Option Bool} → Said true c r → r ≡ Some b → b ≡ c
said_is s e = (rw e at s).is

-- a part of the table
pub part_long : {n m : ℕ} (v : List ℕ) → length v ≡ m → n ≤ m → length (take n v) ≡ n
part_long {n} v e h = length-take-le n v (omega arith)

pub part_some : {n m : ℕ} (v : List ℕ) → length v ≡ m → n ≤ m → 0 < n → 0 < length (take n v)
part_some {n} v e h p = let l = part_long v e h in omega arith
