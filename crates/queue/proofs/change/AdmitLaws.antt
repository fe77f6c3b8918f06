-- Admission: a new record's bytes, room for it, and the area with it. Assumes nothing.
use Rattle.std.specs.Prelude.{◌≡◌, refl, Bool, true, false, cond, ◌&&◌, List, [], ◌∷◌, ◌++◌, ℕ, suc, ◌+◌, ◌-◌, ◌/◌, ◌%◌, ◌^◌, ◌≤◌, ◌<◌, leb, eqb, length, drop, take, replicate, get_or}
use Rattle.std.proofs.Common.{ap, sym, ◌∙◌, append_assoc, arith, div-add-mod', length-append, take_all, lt-ltb, le-ltb, le-leb, eq-eqb, ne_eqb}
use Rattle.std.proofs.Math.Option.{some}
use Rattle.std.proofs.lemmas.Bool.{lt-leb}
use Rattle.queue.proofs.read.ReservedStandLaws.{pieces_many}
use Rattle.queue.specs.Basics.{join_same, join_eight, length_eight}
use Rattle.queue.specs.layout.FrameAs.{terms_at, facts_of, limits_in, head_p, head_b}
use Rattle.queue.specs.check.AreaAs.{records_of, AreaIn}
use Rattle.queue.specs.Codec as codec
use Rattle.queue.specs.Codec.{cases, encs, be_length}
use Rattle.queue.specs.bytes.PutAs.{Put, be_last}
use Rattle.queue.specs.layout.FrameCodec.{rec_c}
use Rattle.queue.specs.bytes.ReaderAs.{list_at}
use Rattle.queue.specs.layout.FormsCodec.{form_c, queue_c}
use Rattle.queue.specs.layout.RecordsAs.{RecordsIn}
use Rattle.queue.specs.Areas.{read_area}
use Rattle.queue.specs.Lists.{all_map, total_split}
use Rattle.queue.specs.theorems.AdmitKeeps.{held_split, weight_split}
use Rattle.queue.specs.check.RulesAs.{weight, sum}
use Rattle.queue.specs.bytes.ListLaws.{one_le}
use Rattle.queue.specs.layout.HeadAs.{front_len, tip_size, TipLong, front_bytes, queue_of, tip_in}
use Rattle.queue.specs.read.FindAs.{recs_in, SpotIn}
use Rattle.queue.specs.theorems.Plain.{rec_plain}
use Rattle.queue.specs.change.PlanAs.{lead_bytes}
use Rattle.queue.specs.change.AdmitAs.{new_of, opt_len_value, label_size_value, terms_len, held_len, new_len, new_terms, held_lent, TermsFit, HeldFit, with_r, WithFrom, room_of, PendingsAre, FullIs, RoomIs, entry_new_len_value}
use Rattle.queue.specs.paper.Records.{Bytes, Id, Limits, Rec, Queue}
use Rattle.queue.specs.paper.Lists.{one, concat}
use Rattle.queue.specs.paper.Sound.{need, holder?, pending?, mined?, content}
use Rattle.queue.specs.paper.Area.{flagged, id_list_bytes, terms_under, terms_bytes, place_bytes, held_under, held_bytes, rec_under, rec_bytes, area_bytes, over}
use Rattle.queue.specs.paper.Changing.{put, new_rec, committed, pendings, pending_bytes, pendings_of, share_of}
use Rattle.queue.specs.paper.Calls.{items, numbers, given, entry_bytes}
use Rattle.queue.specs.declared.change.admit.Offered.{Offered}
use Rattle.queue.specs.declared.change.admit.Tip.{Tip}
use Rattle.queue.specs.read.FindAs.{SpotNumbers}
use Rattle.queue.specs.declared.check.area.Area.{Area}
use Rattle.queue.specs.declared.layout.head.Marks.{Marks}
use Rattle.queue.specs.declared.check.rules.Query.TheVariants.{Holders, HeldBytes, MinedHolders, MinedBytes, PendingOf}
use Rattle.queue.proofs.bytes.PutLaws.{then, recast}
use Rattle.queue.proofs.bytes.PutByteLaws.{be_same}
use Rattle.queue.proofs.read.FindLaws.{among_many}
use Rattle.queue.proofs.layout.HeadLaws.{area_done}
use Rattle.queue.proofs.check.AreaLaws.{holders_sum, bytes_sum, mined_sum, mined_bytes_sum, recs_stand, fit}
use Rattle.queue.proofs.change.WriteLaws.{one_queue, same_queue, the_limits, shares_sixteen, queue_long}
use Rattle.queue.proofs.change.ReopenLaws.{pieces_join}

all_of : (s : Bytes) → take (length s) (drop 0 s) ≡ s
all_of s = take_all (length s) s (omega arith)

-- ---- flagged parts
pub opt_put : {d d₁ d₂ : Bytes} {at a r : ℕ} (flag w v : ℕ) → flag ≡ 1 → v < 256 ^ w → Put d at (1 ∷ []) 1 a d₁ → Put d₁ a (be_last w v) w r d₂ → Put d at (flagged (codec.be w) (given flag v)) (opt_len_value flag w) r d₂
opt_put flag w v e h p q = rw (eq-eqb flag 1 e) (recast (then p q) (ap (λ (y : Bytes). 1 ∷ y) (be_same w v h)) refl refl)

pub opt_none : {d d₁ : Bytes} {at r : ℕ} (flag w v : ℕ) → (flag ≡ 1 → ⊥) → Put d at (0 ∷ []) 1 r d₁ → Put d at (flagged (codec.be w) (given flag v)) (opt_len_value flag w) r d₁
opt_none flag w v e p = rw (ne_eqb flag 1 e) p

pub opt_long : (flag w n at k : ℕ) → flag ≡ 1 → at + cond (eqb flag 1) (n + w) 1 ≤ k → at + (n + w) ≤ k
opt_long flag w n at k e h = rw (eq-eqb flag 1 e) at h

pub opt_short : (flag w n at k : ℕ) → (flag ≡ 1 → ⊥) → at + cond (eqb flag 1) (n + w) 1 ≤ k → at + 1 ≤ k
opt_short flag w n at k e h = rw (ne_eqb flag 1 e) at h

pub label_put : {d d₁ d₂ d₃ : Bytes} {at a b r : ℕ} (flag : ℕ) (l : Bytes) → flag ≡ 1 → length l ≤ 200 → Put d at (1 ∷ []) 1 a d₁ → Put d₁ a (be_last 1 (length l)) 1 b d₂ → Put d₂ b (take (length l) (drop 0 l)) (length l) r d₃
    → Put d at (flagged (λ y. codec.be 1 (length y) ++ y) (given flag l)) (label_size_value flag l) r d₃
label_put flag l e h p q t = rw (eq-eqb flag 1 e) (recast (then (then p q) t) (ap (λ (y : Bytes). 1 ∷ y) (join_same (be_same 1 (length l) (omega arith)) (all_of l))) (omega arith) refl)

pub label_none : {d d₁ : Bytes} {at r : ℕ} (flag : ℕ) (l : Bytes) → (flag ≡ 1 → ⊥) → Put d at (0 ∷ []) 1 r d₁ → Put d at (flagged (λ y. codec.be 1 (length y) ++ y) (given flag l)) (label_size_value flag l) r d₁
label_none flag l e p = rw (ne_eqb flag 1 e) p

-- ---- terms
eight : {a a' d d' f f' g g' h h' : Bytes} (b c e : Bytes) → a ≡ a' → d ≡ d' → f ≡ f' → g ≡ g' → h ≡ h'
    → ((((((a ++ b) ++ c) ++ d) ++ e) ++ f) ++ g) ++ h ≡ a' ++ (b ++ (c ++ (d' ++ (e ++ (f' ++ (g' ++ h'))))))
eight {a} {a'} {d} {d'} {f} {f'} {g} {g'} {h} {h'} b c e p q r s t = cc (join_eight a' b c d' e f' g' h')

pub terms_put : {d d₁ d₂ d₃ d₄ d₅ d₆ d₇ d₈ : Bytes} {at p1 p2 p3 p4 p5 p6 p7 r : ℕ} (x : Offered) (label : Bytes) (n : ℕ) → TermsFit x label n
    → Put d at (be_last 8 x.now.0) 8 p1 d₁ → Put d₁ p1 (flagged (codec.be 8) (given x.timeflag x.time.0)) (opt_len_value x.timeflag 8) p2 d₂
    → Put d₂ p2 (flagged (codec.be 4) (given x.heightflag x.height.0)) (opt_len_value x.heightflag 4) p3 d₃ → Put d₃ p3 (be_last 8 x.priority) 8 p4 d₄
    → Put d₄ p4 (flagged (λ y. codec.be 1 (length y) ++ y) (given x.labelflag label)) (label_size_value x.labelflag label) p5 d₅
    → Put d₅ p5 (be_last 8 x.fee) 8 p6 d₆ → Put d₆ p6 (be_last 4 n) 4 p7 d₇ → Put d₇ p7 (be_last 8 x.cost) 8 r d₈
    → Put d at (terms_bytes (new_terms x label n)) (terms_len x label) r d₈
unfolding terms_under
terms_put x label n f a b c e g h i j =
    recast (then (then (then (then (then (then (then a b) c) e) g) h) i) j)
    (eight (flagged (codec.be 8) (given x.timeflag x.time.0)) (flagged (codec.be 4) (given x.heightflag x.height.0)) (flagged (λ y. codec.be 1 (length y) ++ y) (given x.labelflag label))
    (be_same 8 x.now.0 f.now) (be_same 8 x.priority f.priority) (be_same 8 x.fee f.fee) (be_same 4 n f.size) (be_same 8 x.cost f.cost))
    (omega arith) refl

-- ---- what it holds
items_join : (s : Bytes) → length s % 32 ≡ 0 → concat (items 32 s) ≡ s
unfolding items
items_join s h = let d = div-add-mod' (length s) 32 in pieces_join (length s / 32) s (omega arith)

items_many : (s : Bytes) → length (items 32 s) ≡ length s / 32
unfolding items
items_many s = pieces_many (length s / 32) s

-- a list of ids
pub ids_put : {x x₁ x₂ : Bytes} {at p r : ℕ} (ids : Bytes) → length ids % 32 ≡ 0 → length ids / 32 < 65536
    → Put x at (be_last 2 (length ids / 32)) 2 p x₁ → Put x₁ p (take (length ids) (drop 0 ids)) (length ids) r x₂ → Put x at (id_list_bytes (items 32 ids)) (2 + length ids) r x₂
ids_put ids h k a b = recast (then a b) (join_same (be_same 2 (length ids / 32) k ∙ ap (codec.be 2) (sym (items_many ids))) (all_of ids ∙ sym (items_join ids h))) (omega arith) refl

ids_size : (ids : Bytes) → length ids % 32 ≡ 0 → length (id_list_bytes (items 32 ids)) ≡ 2 + length ids
ids_size ids h = let a = be_length 2 (length (items 32 ids)) in let b = ap length (items_join ids h) in length-append (codec.be 2 (length (items 32 ids))) (concat (items 32 ids)) ∙ omega arith

five : (i o d n s : Bytes) {n' s' : Bytes} → n ≡ n' → s ≡ s' → ((((((1 ∷ []) ++ i) ++ o) ++ d) ++ n) ++ s) ≡ 1 ∷ (i ++ (o ++ (d ++ (n' ++ s'))))
five i o d n s {n'} {s'} p q = ap (λ (y : Bytes). 1 ∷ y) (inner i o d n s ∙ outer)
  where
    inner : (b c d e f : Bytes) → (((b ++ c) ++ d) ++ e) ++ f ≡ b ++ (c ++ (d ++ (e ++ f)))
    inner b c d e f = simp append_assoc

    outer : i ++ (o ++ (d ++ (n ++ s))) ≡ i ++ (o ++ (d ++ (n' ++ s')))
    outer = cc

pub held_put : {x x₁ x₂ x₃ x₄ x₅ x₆ : Bytes} {at p1 p2 p3 p4 p5 r : ℕ} (ins outs reads bytes : Bytes) → HeldFit ins outs reads bytes
    → Put x at (1 ∷ []) 1 p1 x₁ → Put x₁ p1 (id_list_bytes (items 32 ins)) (2 + length ins) p2 x₂ → Put x₂ p2 (id_list_bytes (items 32 outs)) (2 + length outs) p3 x₃
    → Put x₃ p3 (id_list_bytes (items 32 reads)) (2 + length reads) p4 x₄
    → Put x₄ p4 (be_last 4 (length bytes)) 4 p5 x₅ → Put x₅ p5 (take (length bytes) (drop 0 bytes)) (length bytes) r x₆
    → Put x at (flagged held_bytes (some (held_lent ins outs reads bytes))) (held_len ins outs reads bytes) r x₆
unfolding held_under
held_put ins outs reads bytes f a b c d g h =
    recast (then (then (then (then (then a b) c) d) g) h)
    (five (id_list_bytes (items 32 ins)) (id_list_bytes (items 32 outs)) (id_list_bytes (items 32 reads)) _ _ (be_same 4 (length bytes) f.few_bytes) (all_of bytes))
    (omega arith) refl

-- ---- the whole record
lead_zero : (i : Id) (c : ℕ) → c < 256 → lead_bytes i c 0 0 ≡ 2 ∷ (i ++ (codec.be 1 c ++ (0 ∷ 0 ∷ [])))
unfolding lead_bytes
lead_zero i c h = ap (λ (y : Bytes). ((2 ∷ (i ++ y)) ++ be_last 1 0) ++ be_last 1 0) (be_same 1 c h) ∙ ap (λ (y : Bytes). 2 ∷ y) (inner i (codec.be 1 c) (be_last 1 0) (be_last 1 0))
  where
    inner : (i c a b : Bytes) → ((i ++ c) ++ a) ++ b ≡ i ++ (c ++ (a ++ b))
    inner i c a b = simp append_assoc

regroup : (i c t h : Bytes) → ((2 ∷ (i ++ (c ++ (0 ∷ 0 ∷ [])))) ++ t) ++ (replicate 10 0 ++ h) ≡ 2 ∷ (i ++ (c ++ (0 ∷ 0 ∷ (t ++ (replicate 10 0 ++ h)))))
regroup i c t h = ap (λ (y : Bytes). 2 ∷ y) (inner i c (0 ∷ 0 ∷ []) t (replicate 10 0 ++ h))
  where
    inner : (i c z t h : Bytes) → ((i ++ (c ++ z)) ++ t) ++ h ≡ i ++ (c ++ (z ++ (t ++ h)))
    inner i c z t h = simp append_assoc

new_shape : (x : Offered) (id ins outs reads bytes label : Bytes) → 2 ∷ (id ++ (codec.be 1 x.caller ++ (0 ∷ 0 ∷ (terms_bytes (new_terms x label (length bytes)) ++ (replicate 10 0 ++ flagged held_bytes (some (held_lent ins outs reads bytes))))))) ≡ rec_bytes (new_of x id ins outs reads bytes label)
unfolding rec_under new_of new_rec place_bytes
new_shape x id ins outs reads bytes label = refl

pub new_put : {d d₁ d₂ d₃ d₄ : Bytes} {at a b c r : ℕ} (x : Offered) (id ins outs reads bytes label : Bytes) → x.caller < 256
    → Put d at (lead_bytes id x.caller 0 0) terms_at a d₁ → Put d₁ a (terms_bytes (new_terms x label (length bytes))) (terms_len x label) b d₂ → Put d₂ b (replicate (b + 10 - b) 0) (b + 10 - b) c d₃
    → Put d₃ c (flagged held_bytes (some (held_lent ins outs reads bytes))) (held_len ins outs reads bytes) r d₄
    → Put d at (rec_c.enc (new_of x id ins outs reads bytes label)) (new_len x ins outs reads bytes label) r d₄
new_put {b = b} x id ins outs reads bytes label l p q s t =
    let z : b + 10 - b ≡ 10 = omega arith in
    recast (then (then (then p q) s) t)
    (append_assoc (lead_bytes id x.caller 0 0 ++ terms_bytes (new_terms x label (length bytes))) (replicate (b + 10 - b) 0) (flagged held_bytes (some (held_lent ins outs reads bytes)))
    ∙ rw (z, lead_zero id x.caller l) (regroup id (codec.be 1 x.caller) (terms_bytes (new_terms x label (length bytes))) (flagged held_bytes (some (held_lent ins outs reads bytes))))
    ∙ new_shape x id ins outs reads bytes label ∙ sym (rec_plain (new_of x id ins outs reads bytes label)))
    (omega arith) refl

-- ---- how long a new record is
opt_size : (flag w v : ℕ) → length (flagged (codec.be w) (given flag v)) ≡ opt_len_value flag w
opt_size flag w v = let e = be_length w v in cases (eqb flag 1) (λ t. rw t (omega arith)) (λ t. rw t (omega arith))

label_size : (flag : ℕ) (l : Bytes) → length (flagged (λ y. codec.be 1 (length y) ++ y) (given flag l)) ≡ label_size_value flag l
label_size flag l = let e = length-append (codec.be 1 (length l)) l in let f = be_length 1 (length l) in cases (eqb flag 1) (λ t. rw t (omega arith)) (λ t. rw t (omega arith))

pub terms_size : (x : Offered) (label : Bytes) (n : ℕ) → length (terms_bytes (new_terms x label n)) ≡ terms_len x label
unfolding terms_under
terms_size x label n =
    let a = be_length 8 x.now.0 in let b = opt_size x.timeflag 8 x.time.0 in let c = opt_size x.heightflag 4 x.height.0 in
    let d = be_length 8 x.priority in let e = label_size x.labelflag label in let f = be_length 8 x.fee in let g = be_length 4 n in let h = be_length 8 x.cost in
    length_eight (codec.be 8 x.now.0) (flagged (codec.be 8) (given x.timeflag x.time.0)) (flagged (codec.be 4) (given x.heightflag x.height.0)) (codec.be 8 x.priority) (flagged (λ y. codec.be 1 (length y) ++ y) (given x.labelflag label)) (codec.be 8 x.fee) (codec.be 4 n) (codec.be 8 x.cost) ∙ omega arith

held_size : (ins outs reads bytes : Bytes) → HeldFit ins outs reads bytes → length (flagged held_bytes (some (held_lent ins outs reads bytes))) ≡ held_len ins outs reads bytes
unfolding held_under
held_size ins outs reads bytes f =
    let a = ids_size ins f.whole_ins in let b = ids_size outs f.whole_outs in let c = ids_size reads f.whole_reads in let e = be_length 4 (length bytes) in
    ap suc (sizes (id_list_bytes (items 32 ins)) (id_list_bytes (items 32 outs)) (id_list_bytes (items 32 reads)) (codec.be 4 (length bytes)) bytes) ∙ omega arith
  where
    sizes : (a b c d e : Bytes) → length (a ++ (b ++ (c ++ (d ++ e)))) ≡ length a + (length b + (length c + (length d + length e)))
    sizes a b c d e = simp length-append

pub new_long : (x : Offered) (id ins outs reads bytes label : Bytes) → length id ≡ 32 → HeldFit ins outs reads bytes → length (rec_c.enc (new_of x id ins outs reads bytes label)) ≡ new_len x ins outs reads bytes label
new_long x id ins outs reads bytes label l f =
    let t = terms_size x label (length bytes) in let h = held_size ins outs reads bytes f in
    let a = length-append id (codec.be 1 x.caller ++ (0 ∷ 0 ∷ (terms_bytes (new_terms x label (length bytes)) ++ (replicate 10 0 ++ flagged held_bytes (some (held_lent ins outs reads bytes)))))) in
    let c = length-append (codec.be 1 x.caller) (0 ∷ 0 ∷ (terms_bytes (new_terms x label (length bytes)) ++ (replicate 10 0 ++ flagged held_bytes (some (held_lent ins outs reads bytes))))) in
    let e = be_length 1 x.caller in
    let b = length-append (terms_bytes (new_terms x label (length bytes))) (replicate 10 0 ++ flagged held_bytes (some (held_lent ins outs reads bytes))) in
    ap length (rec_plain (new_of x id ins outs reads bytes label) ∙ sym (new_shape x id ins outs reads bytes label)) ∙ omega arith

pub new_id : (x : Offered) (id ins outs reads bytes label : Bytes) → (new_of x id ins outs reads bytes label).id ≡ id
unfolding new_of new_rec
new_id x id ins outs reads bytes label = refl

-- ---- room for one more
module _ {s : Bytes} {a : Area} (w : AreaIn s a) where
  abbrev listed : List Rec
  listed = list_at (form_c false rec_c) a.open.head.count s a.open.start

  pub tally_asks : RecordsIn (form_c false rec_c) s (records_of a.open) × (a.open.head.count < 4294967296)
  tally_asks = let g = w.read.store in (recs_stand g, g.head.count_small)

  pub many_is : {h g : ℕ} → h ≡ sum Holders (list_at (form_c false rec_c) a.open.head.count s a.open.start) → g ≡ sum MinedHolders (list_at (form_c false rec_c) a.open.head.count s a.open.start) → h ≡ pendings w.q.recs + g
  many_is e f =
      let l = w.read.store.list in
      let u = total_split (λ r. one (holder? r)) (λ r. one (pending? r.state)) (λ r. one (mined? r && holder? r)) w.q.recs (all_map w.q.recs (λ r h. held_split r.state (holder? r) h.held) (fit w.read).sound.right) in
      e ∙ ap (sum Holders) l ∙ holders_sum w.q.recs ∙ u ∙ ap (λ k. pendings w.q.recs + k) (sym (f ∙ ap (sum MinedHolders) l ∙ mined_sum w.q.recs))

  pub bytes_is : {h g : ℕ} → h ≡ sum HeldBytes (list_at (form_c false rec_c) a.open.head.count s a.open.start) → g ≡ sum MinedBytes (list_at (form_c false rec_c) a.open.head.count s a.open.start) → h ≡ pending_bytes w.q.recs + g
  bytes_is e f =
      let l = w.read.store.list in
      let u = total_split (λ r. length (content r.body)) (λ r. cond (pending? r.state) (length (content r.body)) 0) (λ r. cond (mined? r) (length (content r.body)) 0) w.q.recs (all_map w.q.recs (λ r h. weight_split r.state r.body h.held) (fit w.read).sound.right) in
      e ∙ ap (sum HeldBytes) l ∙ bytes_sum w.q.recs ∙ u ∙ ap (λ k. pending_bytes w.q.recs + k) (sym (f ∙ ap (sum MinedBytes) l ∙ mined_bytes_sum w.q.recs))

  pub pendings_are : {h : ℕ} (g : ℕ) → h ≡ pendings w.q.recs + g → PendingsAre s (h - g)
  pendings_are {h} g e q f = let z : h - g ≡ pendings w.q.recs = omega arith in z ∙ ap (λ (x : Queue). pendings x.recs) (one_queue s w.is f)

  -- a caller's pending records are some of all
  some_of : (c : ℕ) (l : List Rec) → pendings_of c l ≤ pendings l
  some_of c [] = omega arith
  some_of c (r ∷ l) = let i = some_of c l in cases (pending? r.state) (λ t. rw t (let j = one_le (eqb r.caller c) in omega arith)) (λ t. rw t (omega arith))

  share_of_law : (c : ℕ) {v : ℕ} → v ≡ get_or (numbers a.open.head.limits.shares) c 0 → v ≡ share_of c w.q.limits
  share_of_law c e = e ∙ ap (λ (m : Limits). get_or m.shares c 0) w.read.store.head.lim

  pub share_free : (c : ℕ) {n v : ℕ} → v ≡ get_or (numbers a.open.head.limits.shares) c 0 → PendingsAre s n → n < v → FullIs s c false
  share_free c {n} {v} e p h q f =
      let i = some_of c w.q.recs in
      let j = p w.q w.is in
      let k = share_of_law c e in
      rw (← (one_queue s w.is f)) (sym (lt-leb (share_of c w.q.limits) (pendings_of c w.q.recs) (omega arith)))

  pub share_told : (c : ℕ) {v k : ℕ} → v ≡ get_or (numbers a.open.head.limits.shares) c 0 → k ≡ sum (PendingOf c) (list_at (form_c false rec_c) a.open.head.count s a.open.start) → FullIs s c (leb v k)
  unfolding sum weight facts_of
  share_told c {v} {k} e f q g =
      let l : k ≡ pendings_of c w.q.recs = f ∙ ap (sum (PendingOf c)) w.read.store.list in
      rw (← (one_queue s w.is g)) (ap (λ (y : ℕ). leb y k) (share_of_law c e) ∙ ap (leb (share_of c w.q.limits)) l)

  module _ (c n : ℕ) {h : ℕ} (g : ℕ) (e : h ≡ pendings w.q.recs + g) where
    pub room_10 : a.open.head.limits.p ≤ h - g → RoomIs s c n 10
    unfolding room_of
    room_10 k q f = let p : w.q.limits.P ≡ a.open.head.limits.p = head_p w.read.store.head in rw (← (one_queue s w.is f), le-leb w.q.limits.P (pendings w.q.recs) (omega arith))

    module _ (k : h - g < a.open.head.limits.p) {b18 : Bool} (full : FullIs s c b18) where
      few : leb w.q.limits.P (pendings w.q.recs) ≡ false
      few = let p : w.q.limits.P ≡ a.open.head.limits.p = head_p w.read.store.head in lt-leb w.q.limits.P (pendings w.q.recs) (omega arith)

      pub room_18 : b18 ≡ true → RoomIs s c n 18
      unfolding room_of
      room_18 t q f = rw (← (one_queue s w.is f), few, ← (full w.q w.is), t)

      module _ (t : b18 ≡ false) where
        free : leb (share_of c w.q.limits) (pendings_of c w.q.recs) ≡ false
        free = sym (full w.q w.is) ∙ t

        pub room_11 : a.open.head.limits.b < n → RoomIs s c n 11
        unfolding room_of
        room_11 j q f = let b : w.q.limits.B ≡ a.open.head.limits.b = head_b w.read.store.head in rw (← (one_queue s w.is f), few, free, lt-ltb w.q.limits.B (pending_bytes w.q.recs + n) (omega arith))

        module _ (j : n ≤ a.open.head.limits.b) {i : ℕ} (r : ℕ) (y : i ≡ pending_bytes w.q.recs + r) where
          pub room_11' : a.open.head.limits.b - n < i - r → RoomIs s c n 11
          unfolding room_of
          room_11' z q f = let b : w.q.limits.B ≡ a.open.head.limits.b = head_b w.read.store.head in rw (← (one_queue s w.is f), few, free, lt-ltb w.q.limits.B (pending_bytes w.q.recs + n) (omega arith))

          pub room_0 : i - r ≤ a.open.head.limits.b - n → RoomIs s c n 0
          unfolding room_of
          room_0 z q f = let b : w.q.limits.B ≡ a.open.head.limits.b = head_b w.read.store.head in rw (← (one_queue s w.is f), few, free, le-ltb w.q.limits.B (pending_bytes w.q.recs + n) (omega arith))

-- ---- the entry of a new record
entry_shape : (x : Offered) (id ins outs reads bytes label : Bytes) → id ++ (codec.be 1 x.caller ++ (0 ∷ 0 ∷ (terms_bytes (new_terms x label (length bytes)) ++ (0 ∷ (id_list_bytes (items 32 ins) ++ id_list_bytes (items 32 reads)))))) ≡ entry_bytes (new_of x id ins outs reads bytes label)
unfolding entry_bytes new_of new_rec place_bytes
entry_shape x id ins outs reads bytes label = refl

pub entry_long : (x : Offered) (id ins outs reads bytes label : Bytes) → length id ≡ 32 → HeldFit ins outs reads bytes → length (entry_bytes (new_of x id ins outs reads bytes label)) ≡ entry_new_len_value x ins reads label
entry_long x id ins outs reads bytes label l f =
    let t = terms_size x label (length bytes) in let j = ids_size ins f.whole_ins in let b = ids_size reads f.whole_reads in
    let u = length-append id (codec.be 1 x.caller ++ (0 ∷ 0 ∷ (terms_bytes (new_terms x label (length bytes)) ++ (0 ∷ (id_list_bytes (items 32 ins) ++ id_list_bytes (items 32 reads)))))) in
    let c = length-append (codec.be 1 x.caller) (0 ∷ 0 ∷ (terms_bytes (new_terms x label (length bytes)) ++ (0 ∷ (id_list_bytes (items 32 ins) ++ id_list_bytes (items 32 reads))))) in
    let e = be_length 1 x.caller in
    let v = length-append (terms_bytes (new_terms x label (length bytes))) (0 ∷ (id_list_bytes (items 32 ins) ++ id_list_bytes (items 32 reads))) in
    let w = length-append (id_list_bytes (items 32 ins)) (id_list_bytes (items 32 reads)) in
    sym (ap length (entry_shape x id ins outs reads bytes label)) ∙ omega arith

pub entry_put : {d d₀ d₁ d₂ d₃ d₄ d₅ d₆ : Bytes} {p0 p1 p2 p3 p4 p5 r : ℕ} (x : Offered) (id ins outs reads bytes label : Bytes) → x.caller < 256 → HeldFit ins outs reads bytes
    → Put d 0 id 32 p0 d₀ → Put d₀ p0 (be_last 1 x.caller) 1 p1 d₁ → Put d₁ p1 (be_last 2 0) 2 p2 d₂ → Put d₂ p2 (terms_bytes (new_terms x label (length bytes))) (terms_len x label) p3 d₃ → Put d₃ p3 (0 ∷ []) 1 p4 d₄
    → Put d₄ p4 (id_list_bytes (items 32 ins)) (2 + length ins) p5 d₅ → Put d₅ p5 (id_list_bytes (items 32 reads)) (2 + length reads) r d₆
    → Put d 0 (entry_bytes (new_of x id ins outs reads bytes label)) (entry_new_len_value x ins reads label) r d₆
entry_put x id ins outs reads bytes label l f a w b c e g h =
    recast (then (then (then (then (then (then a w) b) c) e) g) h)
    (ap (λ (y : Bytes). (((((id ++ y) ++ be_last 2 0) ++ terms_bytes (new_terms x label (length bytes))) ++ (0 ∷ [])) ++ id_list_bytes (items 32 ins)) ++ id_list_bytes (items 32 reads)) (be_same 1 x.caller l)
    ∙ inner (id ++ codec.be 1 x.caller) (be_last 2 0) (terms_bytes (new_terms x label (length bytes))) (0 ∷ []) (id_list_bytes (items 32 ins)) (id_list_bytes (items 32 reads))
    ∙ append_assoc id (codec.be 1 x.caller) _
    ∙ entry_shape x id ins outs reads bytes label)
    (omega arith) refl
  where
    inner : (i z t y n c : Bytes) → ((((i ++ z) ++ t) ++ y) ++ n) ++ c ≡ i ++ (z ++ (t ++ (y ++ (n ++ c))))
    inner i z t y n c = simp append_assoc

-- ---- the whole area
module _ {s : Bytes} {a : Area} (t : Tip) {r : Rec} (w : WithFrom s a t.height.0 (tip_in t.id) r) where
  abbrev pub Limz : Limits
  Limz = limits_in a.open.head.limits

  pub with_area : AreaIn s a
  with_area = record { q = w.q; is = w.is; read = w.read }

  module _ {z : Id} (ri : r.id ≡ z) {p : SpotNumbers} (y : SpotIn s a z p) {m : ℕ} (c : m ≡ cond p.found 1 0) where
    with_many : a.open.head.count + 1 - m ≡ length (put r (recs_in s a))
    with_many = among_many with_area r ri y c

    pub with_few : a.open.head.count + 1 - m < 4294967296
    with_few = let f = (fit w.read).sound in omega (arith, f.few, f.range.P-high, f.range.T-high, w.read.store.count)

    module _ {revision : ℕ} (e : revision ≡ (a.open.head.revision + 1) % 2 ^ 64) (l : TipLong t.id) where
      abbrev pub marks_with : Marks
      marks_with = record { persisted = t.height; revision = revision; cursor = t.height; tip = t.id; counter = a.open.head.counter; count = a.open.head.count + 1 - m }

      with_is : queue_of Limz marks_with (put r (recs_in s a)) ≡ with_r t.height.0 (tip_in t.id) r w.q
      unfolding with_r committed
      with_is =
          let st = w.read.store in
          same_queue refl (sym (the_limits w.read)) (e ∙ ap (λ v. (v + 1) % 2 ^ 64) (sym st.head.revision)) refl refl (sym st.head.counter) (ap (put r) st.list)

      with_fits : length (queue_c.enc (queue_of Limz marks_with (put r (recs_in s a)))) ≤ need Limz
      with_fits = let u = ap (λ v. length (queue_c.enc v)) with_is in let v = ap need (the_limits w.read) in let k = w.fits in omega arith

      pub with_room : front_len + tip_size t.id + length (encs rec_c (put r (recs_in s a))) ≤ a.need
      with_room =
          let q = queue_long Limz marks_with (put r (recs_in s a)) (shares_sixteen w.read) with_many l in
          let v = ap need (the_limits w.read) in let k = with_fits in omega (arith, w.read.need)

      pub with_done : {d d₁ d₂ d₃ : Bytes} {o j j' to : ℕ} {q' : Queue} → read_area s ≡ some q' → a.need ≤ length d → to ≡ front_len + tip_size t.id
          → Put d to (encs rec_c (put r (recs_in s a))) (length (encs rec_c (put r (recs_in s a)))) o d₁ → Put d₁ 0 (front_bytes Limz marks_with) (front_len + tip_size t.id) j d₂ → Put d₂ o (replicate (a.need - o) 0) (a.need - o) j' d₃
          → d₃ ≡ over (area_bytes (with_r t.height.0 (tip_in t.id) r q')) d
      with_done {d} f g h p1 p2 p3 =
          area_done Limz marks_with (put r (recs_in s a)) with_many with_fits (w.read.need ∙ ap need (the_limits w.read)) g p1 (recast p2 refl (sym h) refl) p3
          ∙ ap (λ v. over (area_bytes v) d) (with_is ∙ ap (with_r t.height.0 (tip_in t.id) r) (one_queue s w.is f))
