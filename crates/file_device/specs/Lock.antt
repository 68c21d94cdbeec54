-- The lock of a file as contracts see it.
use Rattle.std.specs.Prelude.{ℤ, Bool}
use Rattle.std.specs.Fd.{file_raw_fd}
use Rattle.file_device.specs.declared.lock.FileLock.{FileLock}

-- the number by which the system names its handle
abbrev pub number_locked : FileLock → ℤ
number_locked l = file_raw_fd l.file

-- whether it is held alone for the whole session
abbrev pub is_kept_alone : FileLock → Bool
is_kept_alone l = l.alone
