-- Bytes put into a page at its offset.
use Rattle.std.specs.Prelude.{◌≡◌, ℕ, List, length}
use Rattle.page.specs.declared.pages.Page.{Page}
use Rattle.page.specs.Puts.{Puts}

-- The bytes xs are put into a page at its offset, and the offset goes on behind them. The page is over the same lent bytes, and as long as before.
pub record Adds (p : Page) (xs : List ℕ) (q : Page) : Type 0 where
  pub puts : Puts p.bytes.now p.at xs q.bytes.now q.at
  pub same_length : length q.bytes.now ≡ length p.bytes.now
  pub same_reference : q.bytes.ghost_name ≡ p.bytes.ghost_name
