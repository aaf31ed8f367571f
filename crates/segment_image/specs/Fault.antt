-- The numbers of the faults.
use Rattle.std.specs.Prelude.{ℕ}
use Rattle.segment_image.specs.declared.fault.ImageFault.{ImageFault}
use Rattle.segment_image.specs.declared.fault.ImageFault.TheVariants as image
use Rattle.segment_image.specs.declared.fault.ReadFault.{ReadFault}
use Rattle.segment_image.specs.declared.fault.ReadFault.TheVariants as reading

-- the number of what is wrong with an image
abbrev pub image_fault_number : ImageFault → ℕ
image_fault_number image.TooShort = 1
image_fault_number image.BadCookie = 2
image_fault_number image.BadVersion = 3
image_fault_number image.BadPage = 4
image_fault_number image.BadSize = 5
image_fault_number image.NotReady = 6
image_fault_number image.Deleted = 7
image_fault_number image.BadFree = 8
image_fault_number image.BadQueue = 9
image_fault_number image.BadRef = 10
image_fault_number image.BadBlock = 11
image_fault_number image.Loop = 12
image_fault_number image.NoMemory = 13

-- the number of why words could not be read
abbrev pub read_fault_number : ReadFault → ℕ
read_fault_number reading.NoMemory = 1
read_fault_number reading.Device = 2
read_fault_number reading.TooLong = 3
read_fault_number reading.NotWords = 4
