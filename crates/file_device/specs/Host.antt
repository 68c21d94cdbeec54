-- A file of the operating system as contracts see it.
use Rattle.std.specs.Prelude.{ℤ}
use Rattle.std.specs.Fd.{file_raw_fd}
use Rattle.std.specs.declared.fs.File.{File}
use Rattle.file_device.specs.declared.host.HostFile.{HostFile}
use Rattle.file_device.specs.declared.host.HostReader.{HostReader}
use Rattle.file_device.specs.declared.reader.FileReader.{FileReader}

-- the number by which the system names it
abbrev pub number_of : HostFile File → ℤ
number_of f = file_raw_fd f.file

-- the same of a reader
abbrev pub number_read : {m : _} → FileReader HostReader m → ℤ
number_read r = file_raw_fd r.file.file
