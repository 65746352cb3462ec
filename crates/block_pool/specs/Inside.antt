-- What a pool's fields show.
use Rattle.std.specs.Prelude.{◌≡◌, ◌≤◌, ◌<◌, ◌-◌, ◌^◌, min, length, map, vec_capacity}
use Rattle.block_pool.specs.declared.pool.BlockPool.TheInside.{Inside}
use Rattle.block_pool.specs.Code.{Pool}
use Rattle.block_pool.specs.Pool.{numbers_from}

abbrev pub pool_of : Inside → Pool
pool_of p = record {
  leaves = map (λ q. q.block) p.pages.items;
  dirty = map (λ q. q.dirty) p.pages.items;
  room = min (min (vec_capacity p.pages) (vec_capacity p.changed)) (2 ^ 32 - 1) - length p.pages.items;
}

pub record IsPool (p : Inside) : Type 0 where
  pub few : length p.pages.items < 2 ^ 32
  pub listed : p.changed.items ≡ numbers_from 0 (map (λ q. q.dirty) p.pages.items)
  -- marking a block takes no memory
  pub seats : length p.pages.items ≤ vec_capacity p.changed
