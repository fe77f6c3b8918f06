-- The bytes of a record after its verdict. Assumes nothing.
use Rattle.std.specs.Prelude.{◌≡◌, refl, false, cond, ◌&&◌, ◌||◌, [], ◌∷◌, ◌++◌, ℕ, zero, suc, ◌+◌, ◌-◌, ◌^◌, ◌≤◌, ◌<◌, eqb, length, take, drop}
use Rattle.std.proofs.Common.{ap, sym, ◌∙◌, append_assoc, append-nil, arith, le_of_suc-le-suc, length-append, length-drop, take-append-drop, drop_of_length-le, drop-drop, take-take, take_all, length-take-le, eq-eqb, ne_eqb, eqb-true}
use Rattle.std.proofs.Math.Option.{none, some}
use Rattle.queue.specs.Basics.{join_same, join_eight}
use Rattle.queue.specs.Codec as codec
use Rattle.queue.specs.Codec.{cases, be_c, encs, got}
use Rattle.queue.specs.bytes.PutAs.{Put, be_last}
use Rattle.queue.specs.layout.FrameCodec.{rec_c, terms_c, place_c, body_c}
use Rattle.queue.specs.bytes.ViewAs.{view}
use Rattle.queue.specs.bytes.ReaderLaws as readlaws
use Rattle.queue.specs.bytes.ReaderLaws.{be_at, be_here}
use Rattle.queue.specs.layout.FrameAs.{terms_at, facts_of, SeenAs, SeenFrom}
use Rattle.queue.specs.theorems.Plain.{terms_plain, place_plain, body_plain, rec_plain}
use Rattle.queue.specs.theorems.Arguments.{Small}
use Rattle.queue.specs.change.TouchAs.{entry_in, SeenOf}
use Rattle.queue.specs.change.PlanAs.{PartsIn, state_f, reason_f, state_n, reason_n, mark_n, place_after, becomes, lead_bytes, place_n, place_len, tail_n, tail_len, next_bytes, next_len, step_n}
use Rattle.queue.specs.paper.Records.{Bytes, Rec}
use Rattle.queue.specs.paper.Area.{be_val, flagged, terms_bytes, place_bytes, held_bytes, rec_under}
use Rattle.queue.specs.paper.Kinds.{newest}
use Rattle.queue.specs.declared.layout.frame.Seen.{Seen}
use Rattle.queue.specs.declared.layout.frame.Facts.{Facts}
use Rattle.queue.specs.change.TouchAs.{VerdictNumbers}
use Rattle.queue.proofs.layout.TurnLaws.{SeenIn}
use Rattle.queue.proofs.bytes.PutLaws.{then, recast, nothing, length_be}
use Rattle.queue.proofs.bytes.PutByteLaws.{be_same, between, be_val_law, drop_take}
use Rattle.queue.proofs.change.FinishLaws.{cut_one, id_long, raw_within}

-- ---- state, reason and mark
pub state_small : (f : Facts) → state_f f < 256
unfolding state_f
state_small f = cases (eqb f.mark 0)
    (λ t. cases f.holder (λ u. rw (t, u) (omega arith)) (λ u. rw (t, u) (omega arith)))
    (λ t. cases (eqb f.mark 4) (λ u. rw (t, u) (omega arith)) (λ u. rw (t, u) (omega arith)))

pub reason_small : (f : Facts) → reason_f f < 256
unfolding reason_f
reason_small f = cases (eqb f.mark 0)
    (λ t. cases f.holder (λ u. rw (t, u) (omega arith)) (λ u. rw (t, u) (omega arith)))
    (λ t. cases (eqb f.mark 4) (λ u. rw (t, u) (omega arith)) (λ u. cases (eqb f.mark 5) (λ v. rw (t, u, v) (omega arith)) (λ v. rw (t, u, v) (omega arith))))

-- ---- the place, and what stands behind the mark
module _ (s : Bytes) (base : ℕ) (x : Seen) (t : Bytes) (v : VerdictNumbers) where
  pub place_new : {d d₁ d₂ : Bytes} {at a r : ℕ} → v.what ≡ 1 → Put d at (1 ∷ []) 1 a d₁ → Put d₁ a (take 36 (drop (v.at + 32) t)) 36 r d₂ → Put d at (place_n s base x t v) (place_len x v) r d₂
  unfolding place_n
  place_new e p q = rw (eq-eqb v.what 1 e) (recast (then p q) refl refl refl)

  pub place_gone : {d d₁ : Bytes} {at r : ℕ} → (v.what ≡ 1 → ⊥) → v.what ≡ 4 → Put d at (0 ∷ []) 1 r d₁ → Put d at (place_n s base x t v) (place_len x v) r d₁
  unfolding place_n
  place_gone e f p = rw (ne_eqb v.what 1 e, eq-eqb v.what 4 f) p

  pub place_old : {d d₁ : Bytes} {at r : ℕ} → (v.what ≡ 1 → ⊥) → (v.what ≡ 4 → ⊥) → Put d at (take (x.mark - x.after) (drop (base + x.after) s)) (x.mark - x.after) r d₁ → Put d at (place_n s base x t v) (place_len x v) r d₁
  unfolding place_n
  place_old e f p = rw (ne_eqb v.what 1 e, ne_eqb v.what 4 f) p

  pub new_room : (at k : ℕ) → v.what ≡ 1 → at + place_len x v ≤ k → at + 37 ≤ k
  new_room at k e h = rw (eq-eqb v.what 1 e) at h

  pub none_room : (at k : ℕ) → (v.what ≡ 1 → ⊥) → v.what ≡ 4 → at + place_len x v ≤ k → at + 1 ≤ k
  none_room at k e f h = rw (ne_eqb v.what 1 e, eq-eqb v.what 4 f) at h

  pub old_room : (at k : ℕ) → (v.what ≡ 1 → ⊥) → (v.what ≡ 4 → ⊥) → at + place_len x v ≤ k → at + (x.mark - x.after) ≤ k
  old_room at k e f h = rw (ne_eqb v.what 1 e, ne_eqb v.what 4 f) at h

  pub place_long : PartsIn s base x → (v.what ≡ 1 → v.at + 68 ≤ length t) → length (place_n s base x t v) ≡ place_len x v
  unfolding place_n
  place_long p w = cases (eqb v.what 1)
      (λ a. let e = length-take-le 36 (drop (v.at + 32) t) (omega (arith, w (eqb-true v.what 1 a), length-drop (v.at + 32) t)) in rw a (omega arith))
      (λ a. cases (eqb v.what 4)
      (λ b. rw (a, b))
      (λ b. rw (a, b) (length-take-le (x.mark - x.after) (drop (base + x.after) s) (omega (arith, length-drop (base + x.after) s, p.up_place, p.up_body, p.within)))))

module _ (s : Bytes) (base : ℕ) (x : Seen) (n : ℕ) where
  pub tail_new : {d d₁ d₂ : Bytes} {at a r : ℕ} → (n ≡ 0 → ⊥) → Put d at (be_last 8 n) 8 a d₁ → Put d₁ a (0 ∷ []) 1 r d₂ → Put d at (tail_n s base x n) (tail_len x n) r d₂
  unfolding tail_n
  tail_new e p q = rw (ne_eqb n 0 e) (recast (then p q) refl refl refl)

  pub tail_old : {d d₁ : Bytes} {at r : ℕ} → n ≡ 0 → Put d at (take (x.size - (x.mark + 1)) (drop (base + (x.mark + 1)) s)) (x.size - (x.mark + 1)) r d₁ → Put d at (tail_n s base x n) (tail_len x n) r d₁
  unfolding tail_n
  tail_old e p = rw (eq-eqb n 0 e) p

  pub out_room : (at k : ℕ) → (n ≡ 0 → ⊥) → at + tail_len x n ≤ k → at + 9 ≤ k
  out_room at k e h = rw (ne_eqb n 0 e) at h

  pub in_room : (at k : ℕ) → n ≡ 0 → at + tail_len x n ≤ k → at + (x.size - (x.mark + 1)) ≤ k
  in_room at k e h = rw (eq-eqb n 0 e) at h

  pub tail_long : PartsIn s base x → length (tail_n s base x n) ≡ tail_len x n
  unfolding tail_n
  tail_long p = cases (eqb n 0)
      (λ a. rw a (length-take-le (x.size - (x.mark + 1)) (drop (base + (x.mark + 1)) s) (omega (arith, length-drop (base + (x.mark + 1)) s, p.up_body, p.within))))
      (λ a. let e = length_be 8 n in rw a (length-append (be_last 8 n) (0 ∷ []) ∙ omega arith))

pub next_long : (s : Bytes) (base : ℕ) (x : Seen) (t : Bytes) (v : VerdictNumbers) (n : ℕ) → PartsIn s base x → (v.what ≡ 1 → v.at + 68 ≤ length t) → length (next_bytes s base x t v n) ≡ next_len x v n
unfolding next_bytes lead_bytes
next_long s base x t v n p w =
    let a = length-take-le (x.after - terms_at) (drop (base + terms_at) s) (omega (arith, length-drop (base + terms_at) s, p.up_place, p.up_body, p.within)) in
    let b = place_long s base x t v p w in
    let c = tail_long s base x n p in
    let u = length_be 1 x.facts.caller in let d = length_be 1 (state_n v.what n x.facts) in let e = length_be 1 (reason_n v.what n x.facts) in let f = length_be 1 (mark_n v.what x.facts) in
    simp length-append (omega (arith, p.id, p.up))

-- ---- the parts of a record that was read
pub caller_byte : {v : Bytes} {x : Seen} {r : Rec} {from k : ℕ} → SeenFrom from k v x r → be_last 1 x.facts.caller ≡ codec.be 1 r.caller
unfolding facts_of
caller_byte {x = x} w = be_same 1 x.facts.caller w.small.caller ∙ ap (λ (f : Facts). codec.be 1 f.caller) w.facts

pub parts_in : {s : Bytes} {i : ℕ} {x : Seen} {r : Rec} → SeenIn false s i x.size x r → PartsIn s i x
parts_in w = record { id = id_long w; up = w.0.up; up_place = w.0.up_place; up_body = w.0.up_body; within = raw_within w }

module _ (s : Bytes) (base : ℕ) {x : Seen} {r : Rec} (w : SeenAs (view false s base) x r) where
  terms_part : take (x.after - terms_at) (drop (base + terms_at) s) ≡ terms_bytes r.terms
  unfolding view
  terms_part = ap (take (x.after - terms_at)) (sym (drop-drop terms_at base s)) ∙ (between (drop base s) (terms_c.enc r.terms) terms_at x.after w.terms w.up (omega (arith, w.up_place, w.up_body, w.end))).0 ∙ terms_plain r.terms

  one_byte : length ((be_c 1).enc r.mark) ≡ 1
  unfolding be_c
  one_byte = codec.be_length 1 r.mark

  tail_part : take (x.size - (x.mark + 1)) (drop (base + (x.mark + 1)) s) ≡ codec.be 8 r.finish ++ flagged held_bytes r.body
  unfolding view be_c
  tail_part =
      let k = cut_one (drop base s) ((be_c 1).enc r.mark) ((be_c 8).enc r.finish ++ drop x.body (drop base s)) x.mark w.marks one_byte in
      let e : drop (x.mark + 1) (drop base s) ≡ (codec.be 8 r.finish ++ body_c.enc r.body) ++ drop x.size (drop base s) = k ∙ ap (λ (y : Bytes). codec.be 8 r.finish ++ y) w.body ∙ sym (append_assoc (codec.be 8 r.finish) (body_c.enc r.body) (drop x.size (drop base s))) in
      ap (take (x.size - (x.mark + 1))) (sym (drop-drop (x.mark + 1) base s))
      ∙ (between (drop base s) (codec.be 8 r.finish ++ body_c.enc r.body) (x.mark + 1) x.size e (omega (arith, w.up_body)) w.end).0
      ∙ ap (λ (y : Bytes). codec.be 8 r.finish ++ y) (body_plain newest r.body)

  own_place : take (x.mark - x.after) (drop (base + x.after) s) ≡ place_bytes r.place
  unfolding view
  own_place = ap (take (x.mark - x.after)) (sym (drop-drop x.after base s)) ∙ (between (drop base s) (place_c.enc r.place) x.after x.mark w.place w.up_place (omega (arith, w.up_body, w.end))).0 ∙ place_plain r.place

-- ---- an applied entry
-- an applied entry's place is written as it stands
small_part : (a n : ℕ) (l : Bytes) → Small l → Small (take n (drop a l))
small_part zero zero l h = tt
small_part zero (suc n) [] h = tt
small_part zero (suc n) (b ∷ l) h = (h.0, small_part zero n l h.1)
small_part (suc a) n [] h = none n
  where
    none : (n : ℕ) → Small (take n [])
    none zero = tt
    none (suc n) = tt
small_part (suc a) n (b ∷ l) h = small_part a n l h.1

small_get : (l : Bytes) → Small l → readlaws.SmallAt l
small_get [] h j k = absurd (let y : ⊥ = omega arith in y)
small_get (b ∷ l) h zero k = h.0
small_get (b ∷ l) h (suc j) k = small_get l h.1 j (le_of_suc-le-suc k)

four_back : (l : Bytes) → length l ≡ 4 → Small l → codec.be 4 (be_val l) ≡ l
four_back l e h =
    let d : codec.be_dec 4 (drop 0 l) ≡ got (be_at 4 l 0) (drop (0 + 4) l) = be_here 4 l 0 (omega arith) (small_get l h) in
    let g = (codec.be_bwd 4 l (be_at 4 l 0) (drop 4 l) d).0 in
    let z : drop 4 l ≡ [] = past l (omega arith) in
    let v : be_at 4 l 0 ≡ be_val l = be_val_law 4 l 0 (omega arith) ∙ ap be_val (take_all 4 l (omega arith)) in
    ap (codec.be 4) (sym v) ∙ sym (append-nil (codec.be 4 (be_at 4 l 0))) ∙ ap (λ (y : Bytes). codec.be 4 (be_at 4 l 0) ++ y) (sym z) ∙ sym g
  where
    past : (l : Bytes) → length l ≤ 4 → drop 4 l ≡ []
    past l k = drop_of_length-le l k

entry_bytes_law : (t : Bytes) (p : ℕ) → p + 68 ≤ length t → Small t → 1 ∷ take 36 (drop (p + 32) t) ≡ place_bytes (some ((entry_in t p).height, (entry_in t p).block))
unfolding place_bytes
entry_bytes_law t p h w =
    let X = drop (p + 32) t in
    let E : drop 32 (take 68 (drop p t)) ≡ take 36 X = drop_take 32 36 (drop p t) ∙ ap (take 36) (drop-drop 32 p t) in
    let a : take 4 (drop 32 (take 68 (drop p t))) ≡ take 4 X = ap (take 4) E ∙ take-take 4 36 X (omega arith) in
    let b : drop 36 (take 68 (drop p t)) ≡ drop 4 (take 36 X) = sym (drop-drop 4 32 (take 68 (drop p t))) ∙ ap (drop 4) E in
    let c : codec.be 4 (be_val (take 4 X)) ≡ take 4 X = four_back (take 4 X) (length-take-le 4 X (omega (arith, length-drop (p + 32) t))) (small_part (p + 32) 4 t w) in
    ap (λ (y : Bytes). 1 ∷ y) (sym (join_same (ap (λ (y : Bytes). codec.be 4 (be_val y)) a ∙ c ∙ sym (take-take 4 36 X (omega arith))) b ∙ take-append-drop 4 (take 36 X)))

module _ (s : Bytes) (base : ℕ) (x : Seen) (t : Bytes) (v : VerdictNumbers) (n : ℕ) (r : Rec) (w : SeenOf s base x r) (h : v.what ≡ 1 → v.at + 68 ≤ length t) (S : Small t) where
  n_place : place_n s base x t v ≡ place_bytes (place_after t v r.place)
  unfolding place_n place_after place_bytes
  n_place = cases (eqb v.what 1)
      (λ a. rw a (entry_bytes_law t v.at (h (eqb-true v.what 1 a)) S))
      (λ a. cases (eqb v.what 4) (λ b. rw (a, b)) (λ b. rw (a, b) (own_place s base w.0)))

  n_tail : n < 256 ^ 8 → tail_n s base x n ≡ codec.be 8 (cond (eqb n 0) r.finish n) ++ flagged held_bytes (cond (eqb n 0) r.body none)
  unfolding tail_n
  n_tail l = cases (eqb n 0)
      (λ a. rw a (tail_part s base w.0))
      (λ a. rw a (ap (λ (y : Bytes). y ++ (0 ∷ [])) (be_same 8 n l)))

  small_state : state_n v.what n x.facts < 256
  unfolding state_n
  small_state = cases (eqb v.what 4) (λ p. rw p (state_small x.facts)) (λ p.
      cases (eqb v.what 5) (λ q. rw (p, q) (omega arith)) (λ q.
      cases (eqb v.what 6) (λ u. rw (p, q, u) (omega arith)) (λ u.
      cases (eqb n 0)
      (λ a. cases (eqb v.what 0)
      (λ b. rw (p, q, u, a, b) w.0.small.state)
      (λ b. cases (eqb v.what 1) (λ c. rw (p, q, u, a, b, c) (omega arith)) (λ c. cases (eqb v.what 2) (λ d. rw (p, q, u, a, b, c, d) (omega arith)) (λ d. rw (p, q, u, a, b, c, d) (omega arith)))))
      (λ a. rw (p, q, u, a) (omega arith)))))

  small_reason : reason_n v.what n x.facts < 256
  unfolding reason_n
  small_reason = cases (eqb v.what 4) (λ p. rw p (reason_small x.facts)) (λ p.
      cases (eqb v.what 5) (λ q. rw (p, q) (omega arith)) (λ q.
      cases (eqb v.what 6) (λ u. rw (p, q, u) (omega arith)) (λ u.
      cases (eqb n 0)
      (λ a. cases (eqb v.what 0)
      (λ b. rw (p, q, u, a, b) w.0.small.reason)
      (λ b. cases (eqb v.what 1) (λ c. rw (p, q, u, a, b, c) (omega arith)) (λ c. cases (eqb v.what 2) (λ d. rw (p, q, u, a, b, c, d) (omega arith)) (λ d. rw (p, q, u, a, b, c, d) (omega arith)))))
      (λ a. rw (p, q, u, a) (omega arith)))))

  small_mark : mark_n v.what x.facts < 256
  unfolding mark_n
  small_mark = cases (eqb v.what 1)
      (λ a. cases (eqb x.facts.state 5 && eqb x.facts.reason 3)
      (λ b. rw (a, b) (omega arith))
      (λ b. cases (eqb x.facts.state 4 || eqb x.facts.state 5) (λ c. rw (a, b, c) w.0.small.state) (λ c. rw (a, b, c) w.0.small.mark)))
      (λ a. cases (eqb v.what 4) (λ b. rw (a, b) (omega arith)) (λ b. rw (a, b) w.0.small.mark))

  n_byte : (g : Facts → ℕ) → g x.facts < 256 → be_last 1 (g x.facts) ≡ codec.be 1 (g (facts_of r))
  n_byte g l = be_same 1 (g x.facts) l ∙ ap (λ f. codec.be 1 (g f)) w.0.facts

  pub next_is : n < 256 ^ 8 → next_bytes s base x t v n ≡ rec_c.enc (becomes t v n r)
  unfolding next_bytes lead_bytes rec_under becomes
  next_is l =
      glue x.id (caller_byte w.0) (n_byte (state_n v.what n) small_state) (n_byte (reason_n v.what n) small_reason) (terms_part s base w.0) n_place (n_byte (mark_n v.what) small_mark) (n_tail l)
      ∙ regroup x.id (codec.be 1 r.caller) (codec.be 1 (state_n v.what n (facts_of r))) (codec.be 1 (reason_n v.what n (facts_of r))) (terms_bytes r.terms) (place_bytes (place_after t v r.place)) (codec.be 1 (mark_n v.what (facts_of r))) (codec.be 8 (cond (eqb n 0) r.finish n) ++ flagged held_bytes (cond (eqb n 0) r.body none))
      ∙ ap (λ (i : Bytes). 2 ∷ (i ++ (codec.be 1 r.caller ++ (codec.be 1 (state_n v.what n (facts_of r)) ++ (codec.be 1 (reason_n v.what n (facts_of r)) ++ (terms_bytes r.terms ++ (place_bytes (place_after t v r.place) ++ (codec.be 1 (mark_n v.what (facts_of r)) ++ (codec.be 8 (cond (eqb n 0) r.finish n) ++ flagged held_bytes (cond (eqb n 0) r.body none)))))))))) w.0.id
      ∙ sym (rec_plain (becomes t v n r))
    where
      glue : {w w' a a' b b' c c' d d' e e' f f' : Bytes} (i : Bytes) → w ≡ w' → a ≡ a' → b ≡ b' → c ≡ c' → d ≡ d' → e ≡ e' → f ≡ f'
          → ((((((((2 ∷ []) ++ i) ++ w) ++ a) ++ b) ++ c) ++ d) ++ e) ++ f ≡ ((((((((2 ∷ []) ++ i) ++ w') ++ a') ++ b') ++ c') ++ d') ++ e') ++ f'
      glue i o p q u y z k = cc

      regroup : (i w a b c d e f : Bytes) → ((((((((2 ∷ []) ++ i) ++ w) ++ a) ++ b) ++ c) ++ d) ++ e) ++ f ≡ 2 ∷ (i ++ (w ++ (a ++ (b ++ (c ++ (d ++ (e ++ f)))))))
      regroup i w a b c d e f = ap (λ (k : Bytes). 2 ∷ k) (join_eight i w a b c d e f)

  -- or nothing of one that is forgotten
  pub step_is : n < 256 ^ 8 → step_n s base x t v n ≡ encs rec_c (cond (eqb v.what 7) [] (becomes t v n r ∷ []))
  unfolding step_n encs
  step_is l = cases (eqb v.what 7) (λ a. rw a) (λ a. rw a (next_is l ∙ sym (append-nil (rec_c.enc (becomes t v n r)))))

module _ (s : Bytes) (base : ℕ) (x : Seen) (t : Bytes) (v : VerdictNumbers) (n : ℕ) where
  pub step_yes : (v.what ≡ 7 → ⊥) → step_n s base x t v n ≡ next_bytes s base x t v n
  unfolding step_n
  step_yes e = rw (ne_eqb v.what 7 e)

  pub step_no : (d : Bytes) (at : ℕ) → v.what ≡ 7 → Put d at (step_n s base x t v n) (length (step_n s base x t v n)) at d
  unfolding step_n
  step_no d at e = rw (eq-eqb v.what 7 e) (nothing d at)

  pub step_room : (at k : ℕ) → (v.what ≡ 7 → ⊥) → PartsIn s base x → (v.what ≡ 1 → v.at + 68 ≤ length t) → at + length (step_n s base x t v n) ≤ k → at + next_len x v n ≤ k
  step_room at k e p w h = let a = ap length (step_yes e) in let b = next_long s base x t v n p w in omega arith
