-- Document 02, P13: "a converter from 06 back to 01 for units in the field, so that what it accepts opens there as the same queue". What
-- the units there open is said by the base's own definitions, frozen in paper/Base of queue.
use Rattle.std.specs.Prelude.{◌≡◌, cond, [], ℕ, ◌+◌, ◌≤◌, ltb, length, take}
use Rattle.std.proofs.Math.Option.{Option, none, some}
use Rattle.queue.specs.declared.Kind.TheVariants.{Nothing}
use Rattle.queue.specs.paper.Answer.{Done}
use Rattle.queue.specs.Areas.{read_image}
use Rattle.queue.specs.paper.Base as base
use Rattle.queue.specs.paper.Records.{Bytes, Limits, Terms, Held, Rec, Queue}
use Rattle.queue.specs.paper.Lists.{map}
use Rattle.queue.specs.paper.Kinds.{first_share}
use Rattle.queue.specs.paper.Area.{image_bytes, over}
use Rattle.image.specs.paper.Image.{convert_of}

-- ---- which queue of today a queue of the base is: "All older kinds open with every value unchanged"

-- a priority of 32 bits as one of 64, both two's complement
abbrev pub carried : ℕ → ℕ
carried p = cond (ltb p 2147483648) p (p + 18446744069414584320)

abbrev pub today_terms : base.Terms → Terms
today_terms t = record {
  created = t.created;
  due = t.due;
  due_height = t.due_height;
  priority = carried t.priority;
  label = t.label;
  fee = t.fee;
  size = t.size;
  cost = t.cost;
}

-- "older kinds open without read ids"
abbrev pub today_body : Option base.Held → Option Held
today_body none = none
today_body (some h) = some (record { ins = h.ins; outs = h.outs; reads = []; bytes = h.bytes })

-- "with caller 0 throughout"
abbrev pub today_rec : base.Rec → Rec
today_rec r = record {
  id = r.id;
  caller = 0;
  state = r.state;
  reason = r.reason;
  terms = today_terms r.terms;
  place = r.place;
  mark = r.mark;
  finish = r.finish;
  body = today_body r.body;
}

-- "share 0 being P and the others 0"
abbrev pub today_limits : base.Limits → Limits
today_limits m = record { P = m.P; B = m.B; T = m.T; K = m.K; shares = first_share m.P }

abbrev pub today : base.Queue → Queue
today b = record {
  persisted = b.persisted;
  limits = today_limits b.limits;
  revision = b.revision;
  cursor = b.cursor;
  tip = b.tip;
  counter = b.counter;
  recs = map today_rec b.recs;
}

-- ---- what is promised

-- "what it accepts opens there as the same queue"
abbrev pub OpensThere : Type 0
OpensThere =
    (text out : Bytes) (old : ℕ) (out' : Bytes) (n : ℕ) → convert_of text out old ≡ (Done Nothing, (out', n))
    → (b : base.Queue) × (read_image text ≡ some (today b)) × base.Opens (take n out') b

-- whatever a unit there can open, opens here as the same queue; and its image of today, converted, is the text that the unit wrote
abbrev pub ComesBack : Type 0
ComesBack =
    (text : Bytes) (b : base.Queue) → base.Opens text b
    → (read_image text ≡ some (today b)) × ((out : Bytes) (old : ℕ) → length text ≤ length out → convert_of (image_bytes (today b)) out old ≡ (Done Nothing, (over text out, length text)))
