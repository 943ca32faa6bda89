-- Events are made one after the other: what is kept after n events, and one event more.
use Rattle.std.proofs.Common.{◌≡◌, ℕ, ◌+◌, List, replicate, refl, add-one}
use Rattle.event_reading.specs.declared.Event.{Event}
use Rattle.table_rules.specs.Limits.{place_count}
use Rattle.bench_events.specs.declared.Kept.{Kept}
use Rattle.bench_events.specs.declared.Maker.{Maker}
use Rattle.bench_events.specs.Maker.{drawn_of}
use Rattle.bench_events.specs.Made.{none_kept, made_event, made_cells}
use Rattle.bench_events.specs.Events.{maker_at, cells_at, event_at}

module _ (k : Maker) where
  -- the numbers and the cells are those after n events
  pub record Making (n : ℕ) (m : Maker) (l : List Kept) : Type 0 where
    pub numbers : m ≡ maker_at k n
    pub cells : l ≡ cells_at k n

  pub none_made : Making 0 k (replicate place_count none_kept)
  unfolding maker_at cells_at
  none_made = record { numbers = refl; cells = refl }

  module _ (n : ℕ) (m : Maker) (l : List Kept) (p : Making n m l) (d : Maker) (drawn : d ≡ drawn_of m) where
    pub this_event : (e : Event) → e ≡ made_event l d n → e ≡ event_at k n
    unfolding maker_at event_at
    this_event e h = rw (h, drawn, p.numbers, p.cells)

    pub one_made : (l' : List Kept) → l' ≡ made_cells l d n → Making (n + 1) d l'
    unfolding maker_at cells_at
    one_made l' h = record { numbers = rw (add-one, drawn, p.numbers); cells = rw (add-one, h, drawn, p.numbers, p.cells) }
