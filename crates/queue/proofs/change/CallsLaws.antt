-- The changing calls and settling, exit by exit. Assumes nothing.
use Rattle.std.specs.Prelude as code
use Rattle.std.specs.Prelude.{◌≡◌, ◌⊎◌, refl, Bool, true, false, not, ◌&&◌, ◌||◌, [], ◌∷◌, ◌++◌, ℕ, zero, suc, ◌+◌, ◌-◌, ◌^◌, ◌≤◌, ◌<◌, ltb, leb, eqb, length, drop, take, replicate}
use Rattle.std.proofs.Common.{⊎_elim, ap, sym, ◌∙◌, append_assoc, append-nil, arith, length-append, take_at, drop_at, lt-ltb, le-ltb, eq-eqb, ne_eqb, eqb-true}
use Rattle.std.proofs.Math.Option.{none, some}
use Rattle.std.proofs.lemmas.Bool.{lt-leb, eqb-false}
use Rattle.queue.proofs.check.AreaLaws.{fit}
use Rattle.queue.specs.Codec as codec
use Rattle.queue.specs.Codec.{cases, All, be_length, opt_c, encs, vec_c, byte_c}
use Rattle.queue.specs.Lists.{and_true}
use Rattle.queue.specs.bytes.PutAs.{Put, splice, be_last}
use Rattle.queue.specs.layout.FrameCodec.{id_c, rec_c}
use Rattle.queue.specs.bytes.Parts.{part}
use Rattle.queue.specs.bytes.ViewAs.{view}
use Rattle.queue.specs.bytes.ReaderLaws as readlaws
use Rattle.queue.specs.layout.FormsCodec.{queue_c}
use Rattle.queue.specs.Areas.{read_area}
use Rattle.queue.specs.theorems.Bound.{fits_need, area_size, reads_area}
use Rattle.queue.specs.theorems.SoundParts.{fit_of, fit_sound, fit_ok}
use Rattle.queue.specs.theorems.CallsKeeps.{fresh_fit, moved_fit}
use Rattle.queue.specs.check.AreaAs.{AreaAs, AreaIn}
use Rattle.queue.specs.layout.HeadAs.{tip_in, front_bytes}
use Rattle.queue.specs.change.WriteAs.{MovedFrom, MovedTo}
use Rattle.queue.specs.paper.Records.{Bytes, Id, Limits, Queue}
use Rattle.queue.specs.layout.LimitsAs.{LentShares}
use Rattle.queue.specs.paper.Lists.{all?, map, concat}
use Rattle.queue.specs.paper.Sound.{in_range, shares_right?, limits_right?, need}
use Rattle.queue.specs.paper.Area.{head_under, head_bytes, rec_bytes, queue_bytes, area_bytes, over}
use Rattle.queue.specs.paper.Changing.{moved, set_cursor}
use Rattle.queue.specs.Checked.{outcome, written, set_cursor_of}
use Rattle.queue.specs.paper.Calls.{numbers, limits_of, fresh, fresh_of, settle_shape?, settle_of}
use Rattle.queue.specs.declared.Kind.TheVariants.{Nothing, Memory}
use Rattle.queue.specs.paper.Answer.{Refused, Done}
use Rattle.queue.specs.declared.layout.frame.Height.{Height}
use Rattle.queue.specs.declared.check.area.Area.{Area}
use Rattle.queue.specs.declared.layout.head.Marks.{Marks}
use Rattle.queue.proofs.bytes.PutLaws.{nothing, recast, over_splice}
use Rattle.queue.proofs.bytes.PutByteLaws.{be_same}
use Rattle.queue.proofs.layout.HeadLaws.{area_done}
use Rattle.queue.proofs.layout.LimitsLaws.{sixteen, zeros_fit}
use Rattle.queue.proofs.change.WriteLaws.{long_need}
use Rattle.queue.proofs.read.ReadingLaws.{key}

-- ---- a fresh queue
pub need_512 : (m : Limits) → 512 ≤ need m
unfolding need
need_512 m = omega arith

-- limits and shares as they are lent; v: the shares that the code has, l: with the limits
module _ (p b t k : ℕ) (shares area : Bytes) {v : Bytes} (w : LentShares shares v) where
  abbrev Asks : Limits
  Asks = limits_of p b t k shares

  abbrev Has : Limits
  Has = limits_of p b t k v

  -- shares that are not whole are not looked at
  asked_is : {f : Bool} → f ≡ all? (λ n. leb n p) (numbers v) → (in_range Asks && (not (eqb (length shares) 64) || shares_right? Asks)) ≡ (in_range Has && f)
  unfolding in_range shares_right?
  asked_is {f} e = cases (eqb (length shares) 64)
      (λ h. let n = eqb-true (length shares) 64 h in let z = w.whole n in
      rw (h, eq-eqb _ 16 (sixteen shares n), ← z, ← e))
      (λ h. let z = w.zeros (eqb-false (length shares) 64 h) in let y = e ∙ ap (λ (s : Bytes). all? (λ n. leb n p) (numbers s)) z ∙ zeros_fit p in rw (h, y))

  pub fresh_1 : {c f r : Bool} → c ≡ in_range Has → f ≡ all? (λ n. leb n p) (numbers v) → r ≡ (c && f) → r ≡ false → written (Refused 1) area ≡ fresh_of p b t k shares area
  unfolding fresh_of
  fresh_1 e g h z = let y : (in_range Has && all? (λ n. leb n p) (numbers v)) ≡ false = rw (← e, ← g, ← h) z in rw (asked_is refl ∙ y)

  module _ {c f r : Bool} (e : c ≡ in_range Has) (g : f ≡ all? (λ n. leb n p) (numbers v)) (h : r ≡ (c && f)) (z : r ≡ true) where
    both_hold : (in_range Has ≡ true) × (all? (λ n. leb n p) (numbers v) ≡ true)
    both_hold = let y = and_true c f (sym h ∙ z) in (sym e ∙ y.0, sym g ∙ y.1)

    pub fresh_range : in_range Has ≡ true
    fresh_range = both_hold.0

    asked_holds : (in_range Asks && (not (eqb (length shares) 64) || shares_right? Asks)) ≡ true
    asked_holds = asked_is refl ∙ rw (both_hold.0, both_hold.1)

    pub fresh_2 : {n : ℕ} → n ≡ need Has → length area < n → written (Refused 2) area ≡ fresh_of p b t k shares area
    unfolding fresh_of need
    fresh_2 {n} i l = rw (asked_holds, lt-ltb (length area) (need Asks) (omega arith))

    pub fresh_5 : {n : ℕ} → n ≡ need Has → n ≤ length area → (length shares ≡ 64 → ⊥) → written (Refused 5) area ≡ fresh_of p b t k shares area
    unfolding fresh_of need
    fresh_5 {n} i l j = rw (asked_holds, le-ltb (length area) (need Asks) (omega arith), ne_eqb (length shares) 64 j)

abbrev pub fresh_marks : Marks
fresh_marks = record { persisted = record { 0 = 0 }; revision = 0; cursor = record { 0 = 0 }; tip = code.None; counter = record { 0 = 0 }; count = 0 }

fresh_fits : (m : Limits) → limits_right? m ≡ true → length (queue_c.enc (fresh m)) ≤ need m
fresh_fits m e = let f = fresh_fit m e in fits_need (fresh m) (fit_sound (fresh m) f) (fit_ok (fresh m) f)

none_put : (d : Bytes) (at : ℕ) → Put d at (encs rec_c []) (length (encs rec_c [])) at d
unfolding encs
none_put d at = nothing d at

module _ (p b t k : ℕ) (shares : Bytes) {v : Bytes} (w : LentShares shares v) {c f y : Bool} (e : c ≡ in_range (limits_of p b t k v)) (g : f ≡ all? (λ n. leb n p) (numbers v)) (h : y ≡ (c && f)) (z : y ≡ true) where
  lent_right : limits_right? (limits_of p b t k v) ≡ true
  unfolding shares_right?
  lent_right = let u = both_hold p b t k shares [] w e g h z in rw (u.0, eq-eqb _ 16 (sixteen v w.long), u.1)

  pub fresh_done : {d d₁ d₂ : Bytes} {o r n : ℕ} → length shares ≡ 64 → n ≡ need (limits_of p b t k v) → n ≤ length d → Put d 0 (front_bytes (limits_of p b t k v) fresh_marks) 110 o d₁ → Put d₁ o (replicate (n - o) 0) (n - o) r d₂
      → written (Done Nothing) d₂ ≡ fresh_of p b t k shares d
  unfolding fresh_of need
  fresh_done {d} {d₁} {d₂} {o} {r} {n} l i j a x =
      let m = limits_of p b t k v in
      let s = w.whole l in
      let q = area_done m fresh_marks [] refl (fresh_fits m lent_right) i j (none_put d o) (recast a refl (omega (arith, a.next)) refl) x in
      let u : (in_range (limits_of p b t k shares) && (not (eqb (length shares) 64) || shares_right? (limits_of p b t k shares))) ≡ true = asked_holds p b t k shares d w e g h z in
      rw (u, le-ltb (length d) (need m) (omega arith), eq-eqb (length shares) 64 l, ← s, q)

-- ---- cursor setting
pub cursor_3 : (cur next : Bytes) (height flag : ℕ) (tip : Bytes) → read_area cur ≡ none → outcome (Refused 3) next [] ≡ set_cursor_of cur next height flag tip
unfolding set_cursor_of
cursor_3 cur next height flag tip e = rw e

module _ {cur : Bytes} {a : Area} {q : Queue} (e : read_area cur ≡ some q) (w : AreaAs cur a q) (next : Bytes) where
  pub cursor_2 : (height flag : ℕ) (tip : Bytes) → length next < a.need → outcome (Refused 2) next [] ≡ set_cursor_of cur next height flag tip
  unfolding set_cursor_of
  cursor_2 height flag tip h = rw (e, lt-ltb (length next) (need q.limits) (omega (arith, w.need)))

  module _ (long : a.need ≤ length next) (height : ℕ) where
    enough : ltb (length next) (need q.limits) ≡ false
    enough = le-ltb (length next) (need q.limits) (omega (arith, w.need))

    pub cursor_5 : (flag : ℕ) (tip : Bytes) → (flag ≡ 0 → ⊥) → (flag ≡ 1 → ⊥) → outcome (Refused 5) next [] ≡ set_cursor_of cur next height flag tip
    unfolding set_cursor_of
    cursor_5 flag tip h k = rw (e, enough, lt-leb flag 1 (two flag h k))
      where
        two : (n : ℕ) → (n ≡ 0 → ⊥) → (n ≡ 1 → ⊥) → 1 < n
        two zero h k = absurd (h refl)
        two (suc zero) h k = absurd (k refl)
        two (suc (suc n)) h k = omega arith

    pub cursor_5' : (flag : ℕ) (tip : Bytes) → flag ≡ 1 → (length tip ≡ 32 → ⊥) → outcome (Refused 5) next [] ≡ set_cursor_of cur next height flag tip
    unfolding set_cursor_of
    cursor_5' flag tip h k = rw (e, enough, h, ne_eqb (length tip) 32 k)

    pub cursor_none : (flag : ℕ) (tip : Bytes) {next' : Bytes} → flag ≡ 0 → next' ≡ over (area_bytes (moved q.persisted height none q)) next → outcome (Done Memory) next' [] ≡ set_cursor_of cur next height flag tip
    unfolding set_cursor_of set_cursor over
    cursor_none flag tip h k = rw (e, enough, h, k)

    pub cursor_some : (flag : ℕ) (tip : Bytes) {next' : Bytes} → flag ≡ 1 → length tip ≡ 32 → next' ≡ over (area_bytes (moved q.persisted height (some tip) q)) next → outcome (Done Memory) next' [] ≡ set_cursor_of cur next height flag tip
    unfolding set_cursor_of set_cursor over
    cursor_some flag tip h i k = rw (e, enough, h, eq-eqb (length tip) 32 i, k)

-- what the writer asks: a tip that is there is an id
pub small_all : (s : Bytes) → readlaws.SmallAt s → All (λ b. b < 256) s
small_all [] h = tt
small_all (b ∷ s) h = (h 0 (omega arith), small_all s (λ j k. h (suc j) (omega arith)))

tip_ok : (id : Id) → length id ≡ 32 → readlaws.SmallAt id → (opt_c id_c).ok (some id)
unfolding opt_c id_c vec_c byte_c
tip_ok id l h = (small_all id h, l)

none_ok : (opt_c id_c).ok none
unfolding opt_c
none_ok = tt

move_from : {cur : Bytes} {a : Area} {q : Queue} (e : read_area cur ≡ some q) (w : AreaAs cur a q) (p h : Height) (tip : code.Option Id) → p.0 ≡ q.persisted → h.0 < 4294967296 → (opt_c id_c).ok (tip_in tip) → MovedFrom cur a p h tip
unfolding moved
move_from {cur} {a} {q} e w p h tip i j k =
    let f = moved_fit p.0 h.0 (tip_in tip) q (omega (arith, (fit w).persisted)) j k (fit w) in
    record { q = q; is = e; read = w; fits = lim (fits_need _ (fit_sound _ f) (fit_ok _ f)); small = omega (arith, (fit w).persisted); small_cursor = j }
  where
    lim : length (queue_c.enc (moved p.0 h.0 (tip_in tip) q)) ≤ need (moved p.0 h.0 (tip_in tip) q).limits → length (queue_c.enc (moved p.0 h.0 (tip_in tip) q)) ≤ need q.limits
    lim x = x

module _ {cur : Bytes} {a : Area} (w : AreaIn cur a) (h : Height) (k : h.0 < 4294967296) where
  pub move_none : MovedFrom cur a a.persisted h code.None
  move_none = move_from w.is w.read a.persisted h code.None (sym w.read.persisted) k none_ok

  pub move_some : (tip : Bytes) {r : Id} → length tip ≡ 32 → readlaws.SmallAt tip → r ≡ part 32 (view false tip 0) 0 → MovedFrom cur a a.persisted h (code.Some r)
  move_some tip {r} l s e = let z = key l e in move_from w.is w.read a.persisted h (code.Some r) (sym w.read.persisted) k (rw z (tip_ok tip l s))

-- ---- settling
pub settle_3 : (cur next : Bytes) (kind out : ℕ) → read_area cur ≡ none → written (Refused 3) next ≡ settle_of cur next kind out
unfolding settle_of
settle_3 cur next kind out e = rw e

-- an area without its first four bytes
rest_bytes : Queue → Bytes
rest_bytes q = (head_bytes q ++ concat (map rec_bytes q.recs)) ++ replicate (need q.limits - (4 + length (head_bytes q ++ concat (map rec_bytes q.recs)))) 0

area_rest : (q : Queue) → area_bytes q ≡ codec.be 4 q.persisted ++ rest_bytes q
unfolding area_bytes queue_bytes rest_bytes
area_rest q =
    let n = length-append (codec.be 4 q.persisted) (head_bytes q ++ concat (map rec_bytes q.recs)) ∙ ap (λ k. k + length (head_bytes q ++ concat (map rec_bytes q.recs))) (be_length 4 q.persisted) in
    ap (λ k. (codec.be 4 q.persisted ++ (head_bytes q ++ concat (map rec_bytes q.recs))) ++ replicate (need q.limits - k) 0) n
    ∙ append_assoc (codec.be 4 q.persisted) (head_bytes q ++ concat (map rec_bytes q.recs)) (replicate (need q.limits - (4 + length (head_bytes q ++ concat (map rec_bytes q.recs)))) 0)

persisted_bytes : (p : ℕ) (q : Queue) → Bytes
unfolding moved
persisted_bytes p q = codec.be 4 (moved p q.cursor q.tip q).persisted

moved_rest : (p : ℕ) (q : Queue) → rest_bytes (moved p q.cursor q.tip q) ≡ rest_bytes q
unfolding rest_bytes moved head_under
moved_rest p q = refl

over_is : (b d r l : Bytes) → d ≡ (b ++ r) ++ l → (b' : Bytes) → length b' ≡ length b → over b' d ≡ b' ++ (r ++ l)
unfolding over
over_is b d r l e b' h = ap (λ k. b' ++ k) (ap (drop (length b')) (e ∙ append_assoc b r l) ∙ drop_at b (r ++ l) (length b') (sym h))

settle_same : (next : Bytes) (p : ℕ) (x : Queue) {next' : Bytes} {r : ℕ} → read_area next ≡ some x → p < 256 ^ 4 → Put next 0 (be_last 4 p) 4 r next' → next' ≡ over (area_bytes (moved p x.cursor x.tip x)) next
unfolding persisted_bytes
settle_same next p x {next'} {r} e h w =
    let L = drop (need x.limits) next in
    let R = rest_bytes x in
    let B = codec.be 4 x.persisted in
    let B' = codec.be 4 p in
    let a = reads_area next x e in
    let n : next ≡ (codec.be 4 x.persisted ++ rest_bytes x) ++ drop (need x.limits) next = a.1.1 ∙ ap (λ k. k ++ drop (need x.limits) next) (area_rest x) in
    let b4 = be_length 4 x.persisted in
    let c4 = be_length 4 p in
    let y : next' ≡ over (codec.be 4 p) next = w.is ∙ ap (splice next 0) (be_same 4 p h) ∙ sym (over_splice next (codec.be 4 p) (omega (arith, ap length n, length-append (codec.be 4 x.persisted ++ rest_bytes x) (drop (need x.limits) next), length-append (codec.be 4 x.persisted) (rest_bytes x)))) in
    let m : area_bytes (moved p x.cursor x.tip x) ≡ codec.be 4 p ++ rest_bytes x = area_rest (moved p x.cursor x.tip x) ∙ ap (λ k. persisted_bytes p x ++ k) (moved_rest p x) in
    let n0 : next ≡ ((codec.be 4 x.persisted ++ rest_bytes x) ++ []) ++ drop (need x.limits) next = n ∙ ap (λ k. k ++ drop (need x.limits) next) (sym (append-nil (codec.be 4 x.persisted ++ rest_bytes x))) in
    let l : length (area_bytes (moved p x.cursor x.tip x)) ≡ length (codec.be 4 x.persisted ++ rest_bytes x) = ap length m ∙ length-append (codec.be 4 p) (rest_bytes x) ∙ ap (λ k. k + length (rest_bytes x)) (c4 ∙ sym b4) ∙ sym (length-append (codec.be 4 x.persisted) (rest_bytes x)) in
    let z = over_is (codec.be 4 x.persisted ++ rest_bytes x) next [] (drop (need x.limits) next) n0 (area_bytes (moved p x.cursor x.tip x)) l in
    y ∙ over_is (codec.be 4 x.persisted) next (rest_bytes x) (drop (need x.limits) next) n (codec.be 4 p) (c4 ∙ sym b4)
    ∙ sym (z ∙ ap (λ k. k ++ drop (need x.limits) next) m ∙ append_assoc (codec.be 4 p) (rest_bytes x) (drop (need x.limits) next))

-- a whole write that failed
pub is_failed : {kind out : ℕ} → kind ≡ 2 → out ≡ 1 → (eqb kind 2 && eqb out 1) ≡ true
is_failed {kind} {out} h k = rw (h, k)

pub not_failed : {kind out : ℕ} → ((kind ≡ 2) × (out ≡ 1 → ⊥)) ⊎ (kind ≡ 2 → ⊥) → (eqb kind 2 && eqb out 1) ≡ false
not_failed {kind} {out} e = ⊎_elim (λ p. rw (p.0, ne_eqb out 1 p.1)) (λ n. rw (ne_eqb kind 2 n)) e

module _ (cur : Bytes) {q : Queue} (e : read_area cur ≡ some q) (next : Bytes) (kind out : ℕ) where
  module _ {b : Bool} (f : b ≡ (eqb kind 2 && eqb out 1)) where
    pub settle_2 : b ≡ true → length next < need q.limits → written (Refused 2) next ≡ settle_of cur next kind out
    unfolding settle_of
    settle_2 t h = rw (e, ← f, t, lt-ltb (length next) (need q.limits) h)

    pub settle_17 : {next' : Bytes} {r n : ℕ} → b ≡ true → n ≡ need q.limits → n ≤ length next → Put next 0 (take n (drop 0 cur)) n r next' → written (Refused 17) next' ≡ settle_of cur next kind out
    unfolding settle_of
    settle_17 {next'} {r} {n} t g h p =
        let x = reads_area cur q e in
        let z = area_size q x.0 x.1.0 in
        let y : take n (drop 0 cur) ≡ area_bytes q = ap (take n) x.1.1 ∙ take_at (area_bytes q) (drop (need q.limits) cur) n (omega arith) in
        let o : next' ≡ over (area_bytes q) next = p.is ∙ ap (splice next 0) y ∙ sym (over_splice next (area_bytes q) (omega arith)) in
        rw (e, ← f, t, le-ltb (length next) (need q.limits) (omega arith), o)

    module _ (t : b ≡ false) where
      pub settle_3' : read_area next ≡ none → written (Refused 3) next ≡ settle_of cur next kind out
      unfolding settle_of
      settle_3' g = rw (e, ← f, t, g)

      module _ {x : Queue} (g : read_area next ≡ some x) {c : Bool} (h : c ≡ settle_shape? kind out) where
        pub settle_5 : c ≡ false → written (Refused 5) next ≡ settle_of cur next kind out
        unfolding settle_of
        settle_5 k = rw (e, ← f, t, g, ← h, k)

        pub settle_100 : c ≡ true → out ≡ 0 → written (Done Nothing) next ≡ settle_of cur next kind out
        unfolding settle_of
        settle_100 k z = step (sym h ∙ k)
          where
            step : settle_shape? kind out ≡ true → written (Done Nothing) next ≡ settle_of cur next kind out
            step y = rw (e, ← f, t, g, y, eq-eqb out 0 z)

        pub settle_17' : {next' : Bytes} {r : ℕ} → c ≡ true → (out ≡ 0 → ⊥) → Put next 0 (be_last 4 q.persisted) 4 r next' → written (Refused 17) next' ≡ settle_of cur next kind out
        unfolding settle_of
        settle_17' {next'} k z p = step (sym h ∙ k)
          where
            same : next' ≡ over (area_bytes (moved q.persisted x.cursor x.tip x)) next
            same = settle_same next q.persisted x g (fit_of q (reads_area cur q e).0 (reads_area cur q e).1.0).persisted p

            step : settle_shape? kind out ≡ true → written (Refused 17) next' ≡ settle_of cur next kind out
            step y = rw (e, ← f, t, g, y, ne_eqb out 0 z, same)

-- ---- small facts for the calls' proofs

module _ {cur : Bytes} {a : Area} {q : Queue} (e : read_area cur ≡ some q) (w : AreaAs cur a q) (h : Height) where
  pub told_none : (next : Bytes) {next' : Bytes} → ((q : Queue) → read_area cur ≡ some q → next' ≡ over (area_bytes (moved a.persisted.0 h.0 none q)) next) → next' ≡ over (area_bytes (moved q.persisted h.0 none q)) next
  told_none next m = m q e ∙ ap (λ v. over (area_bytes (moved v h.0 none q)) next) (sym w.persisted)

  pub told_some : {tip : Id} (r : Id) (next : Bytes) {next' : Bytes} → r ≡ tip → MovedTo cur a a.persisted h (code.Some r) next next' → next' ≡ over (area_bytes (moved q.persisted h.0 (some tip) q)) next
  told_some {tip} r next z m = m q e ∙ ap (λ v. over (area_bytes (moved v h.0 (some r) q)) next) (sym w.persisted) ∙ ap (λ v. over (area_bytes (moved q.persisted h.0 (some v) q)) next) z

pub be_four : {cur next next' : Bytes} {a : Area} {q : Queue} {r : ℕ} → AreaAs cur a q → Put next 0 (be_last 4 a.persisted.0) 4 r next' → Put next 0 (be_last 4 q.persisted) 4 r next'
be_four w p = recast p (ap (be_last 4) (sym w.persisted)) refl refl

pub four_in : {next : Bytes} {b : Area} {x : Queue} → AreaAs next b x → 0 + 4 ≤ length next
four_in w = omega (arith, long_need w, w.long)
