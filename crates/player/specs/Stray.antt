-- Sides that stray from their pane, each in one way; one that stops itself; and some whose slices are seen.
use Rattle.std.specs.Prelude.{ℕ, cond, List, eqb, get_or, take}
use Rattle.player.specs.declared.State.TheVariants.{Running, Stopped}
use Rattle.player.specs.Painting.{nothing}
use Rattle.player.specs.Player.{verdict, Outcome, done, Player}
use Rattle.player.specs.Mixing.{Callable}
use Rattle.player.specs.Hosted.{Request, Hosted}
use Rattle.player.specs.Toy.{Env, fresh, past, fill, brush, toy, door}

-- a brush that paints by the frame of the whole screen
abbrev pub spills : ℕ → Env → Outcome Env
spills c e = done (past e.frame Running e) (fill (fresh 5 3 0 4).frame c)

-- a brush that leaves its environment with the whole screen for a pane
abbrev pub widens : ℕ → Env → Outcome Env
widens c e = done (past (fresh 5 3 0 4).frame Running e) (fill e.frame c)

-- one that paints nothing, and tells what byte 12 is
abbrev pub peeks : Callable
peeks =
    record {
      Env = Env;
      Request = ℕ;
      Told = ℕ;
      bounds = λ e. e.frame.bounds;
      call = λ q e s. record { got = record { told = get_or s 12 0; env = e }; screen = s };
    }

-- one that paints nothing, and loses byte 14
abbrev pub loses : Callable
loses =
    record {
      Env = Env;
      Request = ℕ;
      Told = ℕ;
      bounds = λ e. e.frame.bounds;
      call = λ q e s. record { got = record { told = 0; env = e }; screen = take 14 s };
    }

-- words that are carried out, and leave the environment stopped all the same
abbrev pub halts : ℕ → Env → Outcome Env
halts c e = done (past e.frame (Stopped (verdict 20)) e) (nothing e.frame)

-- the brush behind another door, or with another player
abbrev pub hosting : (Request (List ℕ) → Env → ℕ → ℕ) → (List ℕ → Player Env) → Hosted
hosting d p = record { Env = Env; Words = List ℕ; bounds = λ e. e.frame.bounds; door = d; player = p }

-- a door that refuses a budget of 2
abbrev pub picks : Hosted
picks = hosting (λ q e n. cond (eqb q.budget 2) 14 0) (toy brush)

-- one that refuses an environment that has carried out a word
abbrev pub shuts : Hosted
shuts = hosting (λ q e n. cond (eqb e.at 0) 0 12) (toy brush)

-- a player that is past the refused word when it stops, and runs
abbrev pub skips : Hosted
skips = hosting door (λ w. record { state = λ e. e.state; stop = λ v e. past e.frame Running e; step = (toy brush w).step })
