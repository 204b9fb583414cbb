-- The hash of a key, a small number and two handles, as a bucket of a power of two. Assumes nothing.
use Rattle.std.specs.Prelude.{ℕ, ◌+◌, ◌*◌, ◌/◌, ◌%◌, ◌^◌, bit_and}

-- which bucket the key is in, of mask + 1
unfoldable pub bucket_of : ℕ → ℕ → ℕ → ℕ → ℕ
bucket_of mask n x y =
    bit_and (((x * 0x9E3779B97F4A7C15 % 2 ^ 64 + y * 0xC2B2AE3D27D4EB4F % 2 ^ 64) % 2 ^ 64 + n * 0x165667B19E3779F9 % 2 ^ 64) % 2 ^ 64 / 2 ^ 32) mask
