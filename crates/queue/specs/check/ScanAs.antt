-- What the check counts in its one pass over the records.
use Rattle.std.specs.Prelude.{◌≡◌, Bool, true, ◌&&◌, List, ℕ, ◌+◌, ◌-◌, ◌*◌, ◌≤◌, leb, eqb, length, Option, Some, None, MatchOption}
use Rattle.queue.specs.layout.FormsCodec.{rec_in_value, Many, NotMany}
use Rattle.queue.specs.layout.RecordsAs.{recs_at}
use Rattle.queue.specs.check.RulesAs.{right_f, weight, sum}
use Rattle.queue.specs.paper.Ids.{cmp_l, rise?}
use Rattle.queue.specs.paper.Records.{Bytes, Id, Rec}
use Rattle.queue.specs.paper.Lists.{all?, map}
use Rattle.queue.specs.paper.Sound.{right?, reads, apart?, distinct?}
use Rattle.queue.specs.declared.layout.frame.Facts.{Facts}
use Rattle.queue.specs.declared.layout.frame.Form.{Form}
use Rattle.queue.specs.declared.layout.frame.Finish.{Finish}
use Rattle.queue.specs.declared.layout.records.Records.{Records}
use Rattle.queue.specs.declared.check.scan.Sums.{Sums}
use Rattle.queue.specs.declared.bytes.view.Read.{Read}
use Rattle.queue.specs.declared.check.rules.Query.TheVariants.{Holders, HeldBytes, MinedHolders, MinedBytes}

abbrev pub no_sums_value : Sums
no_sums_value = record { holders = 0; bytes = 0; mined = 0; minedbytes = 0; right = true; rises = true; unread = true; clear = true; inputs = 0 }

-- the four counts are at most m
pub record Under (a : Sums) (m : ℕ) : Type 0 where
  pub holders : a.holders ≤ m
  pub bytes : a.bytes ≤ m
  pub mined : a.mined ≤ m
  pub minedbytes : a.minedbytes ≤ m

-- one record more
pub record SumsAdded (k : ℕ) (c : Finish) (a : Sums) (f : Facts) (up : Bool) (r : Sums) : Type 0 where
  pub holders : r.holders ≡ a.holders + weight Holders f
  pub bytes : r.bytes ≡ a.bytes + weight HeldBytes f
  pub mined : r.mined ≡ a.mined + weight MinedHolders f
  pub minedbytes : r.minedbytes ≡ a.minedbytes + weight MinedBytes f
  pub right : r.right ≡ (a.right && right_f k c.0 f)
  pub rises : r.rises ≡ (a.rises && up)
  pub unread : r.unread ≡ (a.unread && eqb f.reads 0)
  pub under : (m : ℕ) → Under a m → Under r (m + 4294967295)

-- a record that reads nothing
abbrev pub unread? : Rec → Bool
unread? r = eqb (length (reads r.body)) 0

-- a is what the records l come to, under K and the counter
pub record SumsAs (k : ℕ) (c : Finish) (a : Sums) (l : List Rec) : Type 0 where
  pub holders : a.holders ≡ sum Holders l
  pub bytes : a.bytes ≡ sum HeldBytes l
  pub mined : a.mined ≡ sum MinedHolders l
  pub minedbytes : a.minedbytes ≡ sum MinedBytes l
  pub right : a.right ≡ all? (right? k c.0) l
  pub rises : a.rises ≡ rise? (map (λ r. r.id) l)
  pub unread : a.unread ≡ all? unread? l
  pub clear : a.clear ≡ true → (apart? l ≡ true) × (distinct? l ≡ true)

-- the records stand there, a is what they come to, and `next` is behind them
pub record CheckedAs (form : Form) (s : Bytes) (recs : Records) (k : ℕ) (c : Finish) (a : Sums) (next : ℕ) : Type 0 where
  pub many : Many (rec_in_value form) s recs.start recs.count next
  pub sums : SumsAs k c a (recs_at (rec_in_value form) s recs)

abbrev pub Checked : Form → Bytes → Records → ℕ → Finish → Option (Read Sums) → Type 0
Checked form s recs k c r = MatchOption r (NotMany (rec_in_value form) s recs.start recs.count) (λ x. CheckedAs form s recs k c x.value x.next)

-- an id is above the last one, if there is one
abbrev pub above_last : Option Id → Id → Bool
above_last None z = true
above_last (Some p) z = eqb (cmp_l p z) 0

-- the counts of n records are within the limits
unfoldable pub counts_n : ℕ → ℕ → ℕ → ℕ → Sums → Bool
counts_n n p b t a =
    (leb n (2 * p + t) && (leb a.holders (2 * p) && leb a.bytes (2 * b))) && ((leb a.mined p && leb a.minedbytes b) && leb (n - a.holders) t)
