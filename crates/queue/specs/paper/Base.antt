-- The base, frozen: the values, limits, rules of sound queues and image of the units in the field, which write header kind 01. Its text is that of
-- commit c82b581 (crates/queue/specs/paper: Records, Sound, Area; crates/image/specs/paper: Image); of two definitions named heldBytes
-- there the one of Sound is held_sum here; names have today's spelling. Nothing in this file changes, whatever later kinds bring: document 02's "opens there as the same
-- queue" (P13) is said against it. List functions, the order of ids, `be` and `text_of` are today's: they know nothing of queues.
use Rattle.std.specs.Prelude.{◌≡◌, ℕ, ◌+◌, ◌*◌, ◌^◌, ◌<◌, Bool, true, cond, not, ◌&&◌, ◌||◌, List, [], ◌∷◌, ◌++◌, length, ◌==◌, nat_le}
use Rattle.std.proofs.Math.Option.{Option, none, some}
use Rattle.queue.specs.paper.Lists.{is_some, all?, any?, total, count, map, concat}
use Rattle.queue.specs.paper.Ids.{below?, same?}
use Rattle.queue.specs.Codec.{All, be}
use Rattle.queue.specs.Hex.{text_of}

-- ---- Records

abbrev pub Bytes : Type 0
Bytes = List ℕ

-- "Hex ids become 32 bytes": transaction, input, output and block ids
abbrev pub Id : Type 0
Id = List ℕ

-- "P pending; B bytes; T tombstones; K inputs, and likewise outputs, in a transaction"
pub record Limits : Type 0 where
  pub P : ℕ
  pub B : ℕ
  pub T : ℕ
  pub K : ℕ

-- What admission fixes for good: created, time deadline and height deadline, priority (32 bits, two's complement), label,
-- fee, size, cost.
pub record Terms : Type 0 where
  pub created : ℕ
  pub due : Option ℕ
  pub due_height : Option ℕ
  pub priority : ℕ
  pub label : Option Bytes
  pub fee : ℕ
  pub size : ℕ
  pub cost : ℕ

-- What only a holder has: "A holder is a record with its signed bytes and input ids", and the outputs named at admission.
pub record Held : Type 0 where
  pub ins : List Id
  pub outs : List Id
  pub bytes : Bytes

-- "A record is one transaction with its state." place: mined height and block id; mark: the withdrawn mark; finish: the
-- finish number; body: what a holder has, none for a tombstone.
pub record Rec : Type 0 where
  pub id : Id
  pub state : ℕ
  pub reason : ℕ
  pub terms : Terms
  pub place : Option (ℕ × Id)
  pub mark : ℕ
  pub finish : ℕ
  pub body : Option Held

-- The queue: persisted height, limits, revision, cursor (height and tip), finish counter, records.
pub record Queue : Type 0 where
  pub persisted : ℕ
  pub limits : Limits
  pub revision : ℕ
  pub cursor : ℕ
  pub tip : Option Id
  pub counter : ℕ
  pub recs : List Rec

-- "States: 0 Queued, 2 Mined, 3 Conflicted, 4 Cancelled, 5 Expired."
abbrev pub queued : ℕ
queued = 0

abbrev pub mined : ℕ
mined = 2

abbrev pub conflicted : ℕ
conflicted = 3

abbrev pub cancelled : ℕ
cancelled = 4

abbrev pub expired : ℕ
expired = 5

-- ---- Sound

-- "P pending 1 to 1,024; B bytes 1 to 16,777,216; T tombstones 1 to 1,024; K inputs, and likewise outputs, in a transaction
-- 1 to 128."
unfoldable pub in_range : Limits → Bool
in_range m =
    ((nat_le 1 m.P && nat_le m.P 1024) && (nat_le 1 m.B && nat_le m.B 16777216))
    && ((nat_le 1 m.T && nat_le m.T 1024) && (nat_le 1 m.K && nat_le m.K 128))

-- "An area needs 2B + 2P × (512 + 64K) + 512T + 512 bytes."
unfoldable pub need : Limits → ℕ
need m = 2 * m.B + 2 * m.P * (512 + 64 * m.K) + 512 * m.T + 512

-- "A holder is a record with its signed bytes and input ids; the rest are tombstones." "A holder may have zero bytes."
abbrev pub holder? : Rec → Bool
holder? r = is_some r.body

abbrev pub inputs : Option Held → List Id
inputs none = []
inputs (some h) = h.ins

abbrev pub outputs : Option Held → List Id
outputs none = []
outputs (some h) = h.outs

abbrev pub content : Option Held → Bytes
content none = []
content (some h) = h.bytes

abbrev pub label_len : Option Bytes → ℕ
label_len none = 0
label_len (some l) = length l

-- "Pending is 0 or 3."
abbrev pub pending? : ℕ → Bool
pending? s = s == queued || s == conflicted

abbrev pub mined? : Rec → Bool
mined? r = r.state == mined

-- "ids strictly rising"
unfoldable pub rising? : List Rec → Bool
rising? [] = true
rising? (r ∷ []) = true
rising? (r ∷ x ∷ l) = below? r.id x.id && rising? (x ∷ l)

-- "holders ≤ 2P with ≤ 2B bytes; Mined holders ≤ P with ≤ B bytes; tombstones ≤ T"
abbrev pub holders : List Rec → ℕ
holders l = count holder? l

abbrev pub held_sum : List Rec → ℕ
held_sum l = total (λ r. length (content r.body)) l

abbrev pub mined_holders : List Rec → ℕ
mined_holders l = count (λ r. mined? r && holder? r) l

abbrev pub mined_bytes : List Rec → ℕ
mined_bytes l = total (λ r. cond (mined? r) (length (content r.body)) 0) l

abbrev pub tombstones : List Rec → ℕ
tombstones l = count (λ r. not (holder? r)) l

-- "pending records are holders, 4 and 5 are tombstones, Mined may be either"
abbrev pub held_right? : ℕ → Bool → Bool
held_right? state holds =
    (pending? state && holds) || (((state == cancelled || state == expired) && not holds) || state == mined)

-- "no input id is in two records (one record may repeat one); tombstones have none"
abbrev pub among? : Id → List Id → Bool
among? i l = any? (same? i) l

unfoldable pub used? : Id → List Rec → Bool
used? i l = any? (λ r. among? i (inputs r.body)) l

unfoldable pub clash? : List Id → List Rec → Bool
clash? ids l = any? (λ i. used? i l) ids

unfoldable pub apart? : List Rec → Bool
apart? [] = true
apart? (r ∷ l) = not (clash? (inputs r.body) l) && apart? l

-- "reasons: Queued 0 or 4, Conflicted 5, Mined 0, Cancelled 1, Expired 2 or 3"
abbrev pub reason_right? : ℕ → ℕ → Bool
reason_right? state n =
    (state == queued && (n == 0 || n == 4))
    || ((state == conflicted && n == 5)
    || ((state == mined && n == 0) || ((state == cancelled && n == 1) || (state == expired && (n == 2 || n == 3)))))

-- "mined height and block exactly when Mined"
abbrev pub place_right? : ℕ → Bool → Bool
place_right? state placed = cond placed (state == mined) (not (state == mined))

-- "withdrawn mark (4 or 5, else 0) only on a Mined tombstone"
abbrev pub mark_right? : ℕ → Bool → ℕ → Bool
mark_right? state holds mark = mark == 0 || ((mark == 4 || mark == 5) && (state == mined && not holds))

-- "finish numbers of tombstones are distinct, from 1 to the counter; holders have 0"
abbrev pub finish_right? : ℕ → Bool → ℕ → Bool
finish_right? counter holds n = cond holds (n == 0) (nat_le 1 n && nat_le n counter)

abbrev pub stamped? : ℕ → Rec → Bool
stamped? n r = not (holder? r) && r.finish == n

unfoldable pub distinct? : List Rec → Bool
distinct? [] = true
distinct? (r ∷ l) = (holder? r || count (stamped? r.finish) l == 0) && distinct? l

-- "label ≤ 200 bytes; inputs, outputs ≤ K; a holder's size is its byte length"
abbrev pub sizes_right? : ℕ → ℕ → ℕ → ℕ → Bool → ℕ → ℕ → Bool
sizes_right? K label ins outs holds size bytes =
    (nat_le label 200 && (nat_le ins K && nat_le outs K)) && (not holds || size == bytes)

-- the rules of one record, under K and the counter
unfoldable pub right? : ℕ → ℕ → Rec → Bool
right? K counter r =
    ((held_right? r.state (holder? r) && reason_right? r.state r.reason)
    && (place_right? r.state (is_some r.place) && mark_right? r.state (holder? r) r.mark))
    && (finish_right? counter (holder? r) r.finish
    && sizes_right? K (label_len r.terms.label) (length (inputs r.body)) (length (outputs r.body)) (holder? r) r.terms.size (length (content r.body)))

-- "A queue is sound when": records ≤ 2P + T, and the rules above
unfoldable pub counts? : Limits → List Rec → Bool
counts? m l =
    (nat_le (length l) (2 * m.P + m.T) && (nat_le (holders l) (2 * m.P) && nat_le (held_sum l) (2 * m.B)))
    && ((nat_le (mined_holders l) m.P && nat_le (mined_bytes l) m.B) && nat_le (tombstones l) m.T)

unfoldable pub sound? : Queue → Bool
sound? q =
    in_range q.limits
    && (counts? q.limits q.recs
    && (all? (right? q.limits.K q.counter) q.recs && (rising? q.recs && (distinct? q.recs && apart? q.recs))))

-- ---- Area

-- "A flag is 0 or 1; an absent value has no bytes."
abbrev pub flagged : {A : Type 0} → (A → Bytes) → Option A → Bytes
flagged f none = 0 ∷ []
flagged f (some a) = 1 ∷ f a

-- "created 8; time flag, 8; height flag, 4; priority 4, two's complement; label flag, length 1, bytes; fee 8; size 4; cost 8"
unfoldable pub terms_bytes : Terms → Bytes
terms_bytes t =
    be 8 t.created
    ++ (flagged (be 8) t.due
    ++ (flagged (be 4) t.due_height
    ++ (be 4 t.priority
    ++ (flagged (λ l. be 1 (length l) ++ l) t.label ++ (be 8 t.fee ++ (be 4 t.size ++ be 8 t.cost))))))

-- "mined flag, height 4, block 32"
unfoldable pub place_bytes : Option (ℕ × Id) → Bytes
place_bytes o = flagged (λ p. be 4 p.0 ++ p.1) o

-- "for a holder input count 2, ids, output count 2, ids, byte count 4, bytes"
unfoldable pub held_bytes : Held → Bytes
held_bytes h =
    be 2 (length h.ins) ++ (concat h.ins ++ (be 2 (length h.outs) ++ (concat h.outs ++ (be 4 (length h.bytes) ++ h.bytes))))

-- "kind 02; id 32; state; reason; .. ; mined ..; withdrawn mark; finish number 8; holder flag; .."
unfoldable pub rec_bytes : Rec → Bytes
rec_bytes r =
    2 ∷ (r.id
    ++ (be 1 r.state
    ++ (be 1 r.reason
    ++ (terms_bytes r.terms ++ (place_bytes r.place ++ (be 1 r.mark ++ (be 8 r.finish ++ flagged held_bytes r.body)))))))

-- "Header: kind 01; P, B, T, K 4 each; revision 8; cursor height 4; tip flag, tip 32; counter 8; record count 4."
unfoldable pub head_bytes : Queue → Bytes
head_bytes q =
    1 ∷ (be 4 q.limits.P
    ++ (be 4 q.limits.B
    ++ (be 4 q.limits.T
    ++ (be 4 q.limits.K
    ++ (be 8 q.revision ++ (be 4 q.cursor ++ (flagged (λ i. i) q.tip ++ (be 8 q.counter ++ be 4 (length q.recs)))))))))

-- ---- Image

-- "Lines of lowercase hexadecimal, one frame a line, each ended by byte 10."
abbrev pub line : Bytes → Bytes
line frame = text_of frame ++ (10 ∷ [])

-- "Header .. Then records by id"
unfoldable pub image_bytes : Queue → Bytes
image_bytes q = line (head_bytes q) ++ concat (map (λ r. line (rec_bytes r)) q.recs)

-- ---- Opening

-- the numbers of a queue fit their fields, and its ids have 32 bytes: what the frames can say
abbrev pub Small : Bytes → Type 0
Small s = All (λ b. b < 256) s

abbrev pub IdFits : Id → Type 0
IdFits i = Small i × (length i ≡ 32)

abbrev pub Maybe : {A : Type 0} → (A → Type 0) → Option A → Type 0
Maybe P none = Unit {0}
Maybe P (some a) = P a

abbrev pub IdsFit : List Id → Type 0
IdsFit l = All IdFits l × (length l < 256 ^ 2)

pub record TermsFit (t : Terms) : Type 0 where
  pub created : t.created < 256 ^ 8
  pub due : Maybe (λ n. n < 256 ^ 8) t.due
  pub due_height : Maybe (λ n. n < 256 ^ 4) t.due_height
  pub priority : t.priority < 256 ^ 4
  pub label : Maybe (λ l. Small l × (length l < 256 ^ 1)) t.label
  pub fee : t.fee < 256 ^ 8
  pub size : t.size < 256 ^ 4
  pub cost : t.cost < 256 ^ 8

pub record HeldFits (h : Held) : Type 0 where
  pub ins : IdsFit h.ins
  pub outs : IdsFit h.outs
  pub bytes : Small h.bytes × (length h.bytes < 256 ^ 4)

pub record RecFits (r : Rec) : Type 0 where
  pub id : IdFits r.id
  pub state : r.state < 256 ^ 1
  pub reason : r.reason < 256 ^ 1
  pub terms : TermsFit r.terms
  pub place : Maybe (λ p. (p.0 < 256 ^ 4) × IdFits p.1) r.place
  pub mark : r.mark < 256 ^ 1
  pub finish : r.finish < 256 ^ 8
  pub body : Maybe HeldFits r.body

pub record Fits (q : Queue) : Type 0 where
  pub P : q.limits.P < 256 ^ 4
  pub B : q.limits.B < 256 ^ 4
  pub T : q.limits.T < 256 ^ 4
  pub K : q.limits.K < 256 ^ 4
  pub revision : q.revision < 256 ^ 8
  pub cursor : q.cursor < 256 ^ 4
  pub tip : Maybe IdFits q.tip
  pub counter : q.counter < 256 ^ 8
  pub count : length q.recs < 256 ^ 4
  pub recs : All RecFits q.recs

-- "Opening takes the limits from the header and sets persisted to the cursor height"; 16 where a text is "not the image of a sound queue
-- with limits in range"
pub record Opens (text : Bytes) (q : Queue) : Type 0 where
  pub is : text ≡ image_bytes q
  pub sound : sound? q ≡ true
  pub fits : Fits q
  pub level : q.persisted ≡ q.cursor
